-- `put_pairs` meets its contract. The invariant: the pairs of the levels below are stored.
use Prim.Native.Nat.{◌*◌}
use lib.ListN.{take, drop}
use Rattle.model.proofs.Filling.{Filling}
use Rattle.claims.specs.Values.{from_top}
use Rattle.survival.proofs.PairLaws.{paired}
use Rattle.survival.proofs.rows.put_pairs.Given as goal

abbrev pub invariant-loop-level : goal.invariant-loop-level
invariant-loop-level l = Filling (paired (from_top l.top (take l.half l.halves)) (from_top l.top (drop l.half l.halves))) l.initial.pairs l.pairs (2 * l.level)
