-- `weavemitten::calls::weavemitten_server_message` meets its contract: what the server gives of its session is kept. Assumes nothing.
use Rattle.std.proofs.Common.{rules, arith}
use mathlib.Core.Path.{refl}
use Rattle.service.specs.Call.{receives}
use Rattle.server.specs.Answers.{heard_in}
use Rattle.server.specs.Memory.{memory_of}
use Rattle.server_message.proofs.Delivered.{has-context}
use Rattle.words.specs.Words.{server_of}
use Rattle.weavemitten.proofs.Serving.{kept_lent, returned-with}
use Rattle.weavemitten.proofs.calls.weavemitten_server_message.Goals as goal

pub returns : goal.returns
returns c =
    let a = c.args in
    let s = server_of a.words.now in
    let h = c.hear-heard.result in
    let g = c.hear-heard.ensures in
    let k = c.keep.ensures in
    let m = memory_of a.zone.now a.first.now a.second.now a.s0.now a.s1.now a.s2.now a.s3.now in
    record {
      small = g.small;
      returns = returned-with a.words.now _ s refl (heard_in s a.time a.session h) _
          (kept_lent a.words.now _ _ _ k.unchanged (λ e. grind arith) (λ e. grind arith) a.time a.session h k.number
          (λ e. (let r = k.saved e in search rules)))
          m _ _
          (receives a.time a.session (record { list = a.m.now; small = g.small }) a.out.now)
          (g.serves g.small s (has-context s a.session _ c.load_context-context.ensures)) _ c.put.ensures;
    }
