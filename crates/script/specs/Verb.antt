-- The verbs. 01, "The replay program": "open time; close time s; msg time s hex; batch time hex; tick time".
use Rattle.std.specs.Prelude.{ℕ, List, [], ◌∷◌, Option, find}
use Rattle.wire.specs.Name.{same_octets}
use Rattle.script.specs.declared.verb.Verb.{Verb}
use Rattle.script.specs.declared.verb.Verb.TheVariants.{Open, Close, Message, Batch, Tick}

-- open, close, msg, batch, tick
unfoldable pub verb_text : Verb → List ℕ
verb_text Open = 111 ∷ 112 ∷ 101 ∷ 110 ∷ []
verb_text Close = 99 ∷ 108 ∷ 111 ∷ 115 ∷ 101 ∷ []
verb_text Message = 109 ∷ 115 ∷ 103 ∷ []
verb_text Batch = 98 ∷ 97 ∷ 116 ∷ 99 ∷ 104 ∷ []
verb_text Tick = 116 ∷ 105 ∷ 99 ∷ 107 ∷ []

-- The verb that a field is, octet for octet, if it is one.
unfoldable pub verb_of : List ℕ → Option Verb
verb_of f = find (λ v. same_octets f (verb_text v)) (Open ∷ Close ∷ Message ∷ Batch ∷ Tick ∷ [])
