-- `naming::step_named` meets its contract. Assumes nothing.
use mathlib.Core.Path.{refl}
use borrow.Author.Rules.{rules}
use Rattle.book.specs.Refusals.{step_named}
use Rattle.book.proofs.NameFaults.{step_is, step_first, step_second}
use Rattle.faults.proofs.naming.step_named.Tie as tie
use Rattle.faults.proofs.naming.step_named.Statement.{statement}

pub step_named_spec : {M : Type 1} → statement M
unfolding step_named
step_named_spec =
    tie.close
    (tie.spec
    (λ c. search rules) (λ c. search rules) (λ c. search rules) (λ c. search rules) (λ c. search rules)
    (λ c. search rules) (λ c. search rules) (λ c κs. search rules) (λ c. search rules) (λ c. search rules)
    (λ c. search rules) (λ c. search rules) (λ c. search rules) (λ c. search rules) (λ c. search rules)
    (λ c. search rules) (λ c. search rules) (λ c. search rules)
    (λ c. search (step_is, refl))  -- Step::Put(_, _)
    (λ c. search (step_is, refl))  -- Step::Name(_, k)
    (λ c. search (step_is, refl))  -- Step::Code(_, b)
    (λ c. search (step_is, refl))  -- Step::Add(_, _, _)
    (λ c. search (step_is, refl))  -- Step::New(_, i, _)
    (λ c. search (step_is, refl))  -- Step::Read(_, _)
    (λ c. search (step_is, refl))  -- Step::Write(_, _)
    (λ c. search (step_is, refl))  -- Step::Relabel(_, _)
    (λ c. search (step_is, refl))  -- Step::Lower(_)
    (λ c. search (step_is, refl))  -- Step::Start(b)
    (λ c. search (step_is, refl))  -- Step::Exec(_)
    (λ c. search step_second)  -- Step::Choose(_, a, b): a exists
    (λ c. search step_first))  -- it does not
