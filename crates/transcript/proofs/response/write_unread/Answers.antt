-- `write_unread`: the line, which has room.
use borrow.Author.Rules.{rules}
use Rattle.transcript.specs.Responses.{unread_line}
use Rattle.transcript.specs.Responses.{number_told}
use Rattle.transcript.proofs.Responding.{unread}
use Rattle.transcript.proofs.response.write_unread.Goals as goal

pub returns : goal.returns
unfolding unread_line number_told
returns c = search (unread, rules)
