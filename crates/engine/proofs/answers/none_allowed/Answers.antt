-- `none_allowed` meets its contract: the part that is lent is filled with 0.
use mathlib.Core.Path.{refl, ap, ◌∙◌}
use mathlib.Core.List.{◌++◌}
use native.Mathlib.Omega.{arith}
use lib.ListN.{drop, replicate, length-take}
use lib.Seq.{length-take-le}
use Rattle.engine.proofs.answers.none_allowed.Goals as goal

pub slice_bounds-fill-end-2 : goal.slice_bounds-fill-end-2
slice_bounds-fill-end-2 c = simp length-take (omega (arith, c.requires))

pub returns : goal.returns
returns c =
    let a = c.args in
    let count = length-take-le a.needed a.workspace.now c.requires in record { answered = (refl, refl); cleared = ap (λ front. front ++ drop a.needed a.workspace.now) (c.fill.ensures.after (λ y e. e) ∙ ap (λ n. replicate n 0) count) }
