-- `put_claims` meets its contract. The invariant: the lines of the first k places are appended. Assumes nothing.
use Prim.Native.Nat.{◌+◌}
use Rattle.text.proofs.TextLaws.{Appending}
use Rattle.report_groups.specs.Groups.{claims_at}
use Rattle.report_groups.proofs.put_claims.Given as goal

abbrev pub invariant-loop-k : goal.invariant-loop-k
invariant-loop-k l = Appending (claims_at l.lower l.upper) (l.months + 1) l.initial.text l.at l.text l.end l.k
