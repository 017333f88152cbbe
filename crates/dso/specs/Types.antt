-- The types of TLV as code holds them: each stands for its number, and a number for the type that has it, if one does.
use Rattle.std.specs.Prelude.{ℕ, cond, eqb, Result, Ok, Err}
use Rattle.dso.specs.Judge.{keepalive_type, retry_delay_type, subscribe_type, push_type, unsubscribe_type, reconfirm_type}
use Rattle.dso.specs.declared.number.NotImplemented.{NotImplemented}
use Rattle.dso.specs.declared.number.TlvType.{TlvType}
use Rattle.dso.specs.declared.number.TlvType.TheVariants.{Keepalive, RetryDelay, Subscribe, Push, Unsubscribe, Reconfirm}

-- The number of a type (RFC 8490, 7; RFC 8765, 6.2 to 6.5).
abbrev pub type_number : TlvType → ℕ
type_number Keepalive = keepalive_type
type_number RetryDelay = retry_delay_type
type_number Subscribe = subscribe_type
type_number Push = push_type
type_number Unsubscribe = unsubscribe_type
type_number Reconfirm = reconfirm_type

-- The type that a number stands for; an error where it stands for none that is implemented.
unfoldable pub type_of : ℕ → Result TlvType NotImplemented
type_of k =
    cond (eqb k keepalive_type) (Ok Keepalive)
    (cond (eqb k retry_delay_type) (Ok RetryDelay)
    (cond (eqb k subscribe_type) (Ok Subscribe)
    (cond (eqb k push_type) (Ok Push)
    (cond (eqb k unsubscribe_type) (Ok Unsubscribe)
    (cond (eqb k reconfirm_type) (Ok Reconfirm) (Err (record {})))))))
