-- The two clocks of a session (01, "Two clocks a session"; RFC 8490, 6.4 and 6.5). Times are milliseconds. Only received
-- messages restart a clock, and only ticks look at one.
use Rattle.std.specs.Prelude.{ℕ, ◌*◌, ◌-◌, max, Bool, cond, not, ◌&&◌, ◌||◌, leb}
use Rattle.session.specs.declared.clocks.Clocks.{Clocks}

-- 01: "Open starts both at its time, with inactivity 15,000 and keepalive 15,000." (RFC 8490, 6.2: the defaults.)
abbrev pub first_inactivity : ℕ
first_inactivity = 15000

abbrev pub first_keepalive : ℕ
first_keepalive = 15000

unfoldable pub started : ℕ → Clocks
started t = record { active = t; alive = t; inactivity = first_inactivity; keepalive = first_keepalive }

-- 01: "A received message not ending in abort restarts both; one that reaches step 4 with type 1 restarts the keepalive
-- clock only." The flag says whether it is such a message.
unfoldable pub received : Bool → ℕ → Clocks → Clocks
received is_keepalive t c =
    record { active = cond is_keepalive c.active t; alive = t; inactivity = c.inactivity; keepalive = c.keepalive }

-- The timeouts of a Keepalive reply, "which then hold".
unfoldable pub granted : ℕ → ℕ → Clocks → Clocks
granted inactivity keepalive c =
    record { active = c.active; alive = c.alive; inactivity = inactivity; keepalive = keepalive }

-- RFC 8490, 6.4.1: the least time of inactivity after which a server may abort.
abbrev pub least_inactivity : ℕ
least_inactivity = 5000

-- 01: "A tick aborts a session when elapsed keepalive time is at least twice the interval, or, with no live subscription,
-- elapsed inactivity is at least the greater of 5,000 and twice the timeout."
unfoldable pub expired : Bool → ℕ → Clocks → Bool
expired has_subscription t c =
    leb (2 * c.keepalive) (t - c.alive)
    || not has_subscription && leb (max least_inactivity (2 * c.inactivity)) (t - c.active)
