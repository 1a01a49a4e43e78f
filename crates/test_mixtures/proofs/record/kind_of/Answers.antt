-- `record::kind_of` meets its contract, case by case.
use native.Mathlib.Omega.{arith}
use borrow.Author.Tests.{ne_eqb}
use Rattle.test_mixtures.specs.Records.{kind_of}
use Rattle.test_mixtures.proofs.record.kind_of.Goals as goal

pub returns-in-1 : goal.returns-in-1
unfolding kind_of
returns-in-1 c = rw c.in-1.is

pub returns-in-2 : goal.returns-in-2
unfolding kind_of
returns-in-2 c = rw c.in-2.is

pub returns-in-0 : goal.returns-in-0
unfolding kind_of
returns-in-0 c = rw c.in-0.is

pub returns-in_default : goal.returns-in_default
unfolding kind_of
returns-in_default c =
    rw (
      ne_eqb c.args.number 1 (λ same. omega arith),
      ne_eqb c.args.number 2 (λ same. omega arith),
      ne_eqb c.args.number 0 (λ same. omega arith),
    )
