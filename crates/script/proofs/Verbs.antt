-- Verbs: that a verb's own word is read back as the verb.
use mathlib.Core.Path.{◌≡◌, refl}
use Rattle.std.specs.Prelude.{Some}
use Rattle.wire.specs.Name.{same_octets}
use Rattle.script.specs.Verb.{verb_text, verb_of}
use Rattle.script.specs.declared.verb.Verb.{Verb}
use Rattle.script.specs.declared.verb.Verb.TheVariants.{Open, Close, Message, Batch, Tick}

-- A verb's own word is read back as the verb.
pub verb-read : (v : Verb) → verb_of (verb_text v) ≡ Some v
unfolding verb_of verb_text same_octets
verb-read Open = refl
verb-read Close = refl
verb-read Message = refl
verb-read Batch = refl
verb-read Tick = refl
