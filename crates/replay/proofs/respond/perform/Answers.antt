-- `perform`: line by line, what its call promises.
use Rattle.server_message.specs.Lent.{areas_lent}
use Rattle.replay.proofs.Performing.{opened, closed, heard, edited, ticked}
use Rattle.replay.proofs.respond.perform.Goals as goal
use Rattle.replay.proofs.respond.perform.Goals.{in-Open, in-Close, in-Message, in-Batch, in-Tick}

pub returns : goal.returns
returns c =
    let a = c.args in
    let m = areas_lent a.zone.now a.areas in
    elim c.match-command.branch [
      | in-Open w ↦ rw (w.result-is, w.out-is, w.first-is, w.second-is, w.s0-is, w.s1-is, w.s2-is, w.s3-is)
          (opened a.server m a.bytes.now a.out.now a.command _ _ w.in-Open.is w.«open».ensures)
      | in-Close w ↦ rw (w.result-is, w.out-is, w.first-is, w.second-is, w.s0-is, w.s1-is, w.s2-is, w.s3-is)
          (closed a.server m a.bytes.now a.out.now a.command _ _ _ w.in-Close.is w.close.ensures)
      | in-Message w ↦ rw (w.result-is, w.out-is, w.first-is, w.second-is, w.s0-is, w.s1-is, w.s2-is, w.s3-is)
          (heard a.server m _ a.bytes.now a.out.now _ a.command _ _ _ _ w.in-Message.is _ w.part-m.ensures w.message.ensures.serves)
      | in-Batch w ↦ rw (w.result-is, w.out-is, w.first-is, w.second-is, w.s0-is, w.s1-is, w.s2-is, w.s3-is)
          (edited a.server m _ a.bytes.now a.out.now _ a.command _ _ _ w.in-Batch.is _ w.part-edits.ensures w.batch.ensures.serves)
      | in-Tick w ↦ rw (w.result-is, w.out-is, w.first-is, w.second-is, w.s0-is, w.s1-is, w.s2-is, w.s3-is)
          (ticked a.server m a.bytes.now a.out.now a.command _ _ w.in-Tick.is w.tick.ensures)
    ]
