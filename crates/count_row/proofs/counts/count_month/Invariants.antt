-- `count_month` meets its contract. The invariant: the places from k on are new and the others old (`new_from`).
use mathlib.Core.Path.{◌≡◌}
use Prim.Native.Nat.{◌<◌}
use Rattle.count_row.proofs.CountLaws.{new_from}
use Rattle.count_row.proofs.counts.count_month.Given as goal

abbrev pub invariant-loop-k : goal.invariant-loop-k
invariant-loop-k l = record { some : 0 < l.k; so_far : l.row ≡ new_from l.initial.row l.round l.chance l.k }
