-- `plan_bits::reading::check_numbers` meets its contract: the first numbers of its row are those that follow the head.
use Prim.Native.Nat.{ℕ, ◌≤◌}
use mathlib.Core.Path.{◌≡◌, sym, ap, ◌∙◌}
use native.Mathlib.Omega.{arith}
use lib.ListN.{length, take, drop, replicate, length-append}
use lib.Seq.{length-take-le, take_at}
use Rattle.model.specs.Limits.{row_room}
use Rattle.model.specs.Format.{number_width, head_bits, bits_of, fields}
use Rattle.model.specs.Refusal.{plan_refusal}
use Rattle.plan_bits.proofs.Fields.{length_fields}
use Rattle.plan_bits.proofs.reading.check_numbers.Goals as goal
use Rattle.plan_bits.proofs.reading.check_numbers.Goals.{After-decode}

-- the part that is lent has as many numbers as are asked for
lent_length : (count : ℕ) → count ≤ row_room → length {A = ℕ} (take count (replicate row_room 0)) ≡ count
lent_length count fits = length-take-le _ _ fits

pub slice_bounds-decode-end : goal.slice_bounds-decode-end
slice_bounds-decode-end c = sym (lent_length c.args.count c.requires.fits)

pub decode-requires : goal.decode-requires
decode-requires c = rw (lent_length c.args.count c.requires.fits) c.requires

-- the numbers that were read
decoded : (c : After-decode) → c.decode.new.row ≡ fields number_width c.args.count (drop head_bits (bits_of c.args.bytes.now))
decoded c = c.decode.ensures ∙ ap (λ n. fields number_width n (drop head_bits (bits_of c.args.bytes.now))) (lent_length c.args.count c.requires.fits)

decoded-length : (c : After-decode) → length c.decode.new.row ≡ c.args.count
decoded-length c = ap length (decoded c) ∙ length_fields number_width _ _

pub slice_bounds-row-end-2 : goal.slice_bounds-row-end-2
slice_bounds-row-end-2 c = simp length-append (omega (arith, decoded-length (goal.at.slice_bounds-row-end-2 c).After-decode))

pub slice_bounds-check_plan-end : goal.slice_bounds-check_plan-end
slice_bounds-check_plan-end c =
    sym (length-take-le _ _ (simp length-append (omega (arith, decoded-length (goal.at.slice_bounds-check_plan-end c).After-decode))))

pub returns : goal.returns
returns c =
    c.check_plan.ensures
    ∙ ap (plan_refusal c.args.head) (take_at _ _ _ (decoded-length (goal.at.returns c).After-decode) ∙ decoded (goal.at.returns c).After-decode)
