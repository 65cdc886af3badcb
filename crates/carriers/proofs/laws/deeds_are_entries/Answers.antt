-- The lemmas are the law.
use Rattle.carriers.specs.ToEntries.{pushed, shut, answers, push_refused, pop_refused, meets, known_of_deeds, known_forth}
use Rattle.carriers.proofs.laws.deeds_are_entries.Goals as goal

pub returns-clause-pushed : goal.returns-clause-pushed
returns-clause-pushed c = pushed

pub returns-clause-shut : goal.returns-clause-shut
returns-clause-shut c = shut

pub returns-clause-answers : goal.returns-clause-answers
returns-clause-answers c = answers

pub returns-clause-push_refused : goal.returns-clause-push_refused
returns-clause-push_refused c = push_refused

pub returns-clause-pop_refused : goal.returns-clause-pop_refused
returns-clause-pop_refused c = pop_refused

pub returns-clause-meets : goal.returns-clause-meets
returns-clause-meets c = meets

pub returns-clause-each : goal.returns-clause-each
returns-clause-each c k = (known_of_deeds k, known_forth k)
