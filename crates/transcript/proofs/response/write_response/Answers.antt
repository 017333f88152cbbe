-- `write_response`: the lines of the answer, or of none.
use borrow.Author.Rules.{rules}
use Rattle.transcript.proofs.Responding.{responding}
use Rattle.transcript.proofs.response.write_response.Goals as goal

pub returns-in_default : goal.returns-in_default
returns-in_default c = search (responding, rules)

pub returns : goal.returns
returns c = search (responding, rules)
