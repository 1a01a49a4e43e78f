-- `record::question` meets its contract, case by case.
use native.Mathlib.Omega.{arith}
use borrow.Author.Tests.{ne_eqb}
use Rattle.test_mixtures.specs.Records.{question_of}
use Rattle.test_mixtures.proofs.record.question.Goals as goal

pub returns-in-1 : goal.returns-in-1
unfolding question_of
returns-in-1 c = rw c.in-1.is

pub returns-in-2 : goal.returns-in-2
unfolding question_of
returns-in-2 c = rw c.in-2.is

pub returns-in-3 : goal.returns-in-3
unfolding question_of
returns-in-3 c = rw c.in-3.is

pub returns-in_default : goal.returns-in_default
unfolding question_of
returns-in_default c =
    rw (
      ne_eqb c.args.kind 1 (λ same. omega arith),
      ne_eqb c.args.kind 2 (λ same. omega arith),
      ne_eqb c.args.kind 3 (λ same. omega arith),
    )
