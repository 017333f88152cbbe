-- The step of `dso::reader::Reader` meets its contract: each brings it nearer to the message's end.
use Rattle.dso.proofs.Tlvs.{nearer-end}
use Rattle.dso.proofs.reader.ReaderIterator.next.Goals as goal
use Rattle.dso.proofs.reader.ReaderIterator.next.Goals.{in-Ok, in-Err}

pub returns-clause-goes : goal.returns-clause-goes
returns-clause-goes c =
    record {
      on = λ f. (tt, tt, nearer-end _ _ _ c.tlv_at.ensures _ c.match-tlv.self c.in_ok-tlv.was (elim c.match-tlv.branch [ in-Ok w ↦ rw w.in-Ok.is w.self-is | in-Err w ↦ rw w.in-Err.is w.self-is ]));
      keeps = tt;
      rests = λ f. tt;
    }
