-- Bench examples 11 and 12 of 01, on the definitions.
-- Assumes nothing.
use mathlib.Core.Path.{◌≡◌, refl}
use mathlib.Core.List.{[], ◌∷◌}
use Rattle.wire.specs.Field.{field, octets}
use Rattle.dso.specs.Header.{flags}
use Rattle.dso.specs.Response.{granted, header, tlv_octets, tlvs_octets, response_tlvs, response}
use Rattle.dso.specs.declared.judgment.ReplyCode.TheVariants.{NotAuth}
use Rattle.dso.specs.declared.response.Response.TheVariants.{Error, Keepalive}

pub record Bench : Type 0 where
  pub not_auth : flags (response 0x1234 (Error NotAuth)) ≡ 0xB009
  pub keepalive : response_tlvs (Keepalive granted) ≡ record { kind = 1; value = 0 ∷ 0 ∷ 0x3A ∷ 0x98 ∷ 0 ∷ 0 ∷ 0xEA ∷ 0x60 ∷ [] } ∷ []

pub bench : Bench
unfolding flags field response header tlvs_octets tlv_octets octets
bench = record { not_auth = refl; keepalive = refl }
