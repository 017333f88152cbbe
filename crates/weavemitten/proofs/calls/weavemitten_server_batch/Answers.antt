-- `weavemitten::calls::weavemitten_server_batch` meets its contract: what the server gives is kept. Assumes nothing.
use Rattle.std.proofs.Common.{rules, ◌≤◌}
use Rattle.service.specs.Call.{edits}
use Rattle.server.specs.Answers.{last_accepted}
use Rattle.server.specs.Memory.{memory_of}
use Rattle.words.specs.Words.{Saved}
use Rattle.weavemitten.proofs.Serving.{kept-saved, returned-with}
use Rattle.weavemitten.proofs.calls.weavemitten_server_batch.Goals as goal

pub returns : goal.returns
returns c =
    let a = c.args in
    let u = c.batch-outcome.result in
    let g = c.batch-outcome.ensures in
    let k = c.keep.ensures in
    let m = memory_of a.zone.now a.first.now a.second.now a.s0.now a.s1.now a.s2.now a.s3.now in
    let saved : c.keep.result ≤ last_accepted → Saved u.server c.keep.new.words = λ h. (let r = k.saved h in search rules) in
    record {
      small = g.small;
      returns = returned-with a.words.now _ _ c.load-server.ensures u _ (kept-saved _ _ _ k.unchanged u k.number saved) m _ _
          (edits a.time (record { list = a.bytes.now; small = g.small }) a.out.now) (g.serves g.small) _ c.put.ensures;
    }
