-- Laws of the two clocks: how a tick judges them, and that no tick aborts a session at the time of its start.
use Prim.Native.Nat.{ℕ, ◌-◌, ◌<◌}
use mathlib.Core.Path.{◌≡◌, refl, ap₂, ◌∙◌}
use mathlib.Core.Bool.{Bool, true, false, not, ◌&&◌, ◌||◌, and-false}
use native.Mathlib.Omega.{arith}
use borrow.Author.Tests.{lt-leb}
use Rattle.session.specs.declared.clocks.Clocks.{Clocks}
use Rattle.session.specs.Clocks.{started, received, granted, expired}

-- ---- 01's clocks by computation

-- A session opened at 1,000, and what it received at 2,000: a Keepalive; another message.
abbrev pub kept_alive : Clocks
kept_alive = received true 2000 (started 1000)

abbrev pub spoken : Clocks
spoken = received false 2000 (started 1000)

-- Each pair is one boundary: the tick that lets the session stay, and the tick that ends it.
pub record Ticks : Type 0 where
  -- Bench example 5: "Idle from 1,000: tick 30,999 stays, 31,000 ends."
  pub idle-stays : expired false 30999 (started 1000) ≡ false
  pub idle-ends : expired false 31000 (started 1000) ≡ true
  -- "A received message not ending in abort restarts both": here the inactivity clock, and, with a subscription, the other.
  pub spoken-stays : expired false 31999 spoken ≡ false
  pub spoken-ends : expired false 32000 spoken ≡ true
  pub spoken-subscribed-stays : expired true 31999 spoken ≡ false
  pub spoken-subscribed-ends : expired true 32000 spoken ≡ true
  -- "one that reaches step 4 with type 1 restarts the keepalive clock only": the inactivity clock runs on from 1,000.
  pub kept-alive-stays : expired false 30999 kept_alive ≡ false
  pub kept-alive-ends : expired false 31000 kept_alive ≡ true
  pub kept-alive-subscribed-stays : expired true 31999 kept_alive ≡ false
  pub kept-alive-subscribed-ends : expired true 32000 kept_alive ≡ true
  -- "reply carries 15,000 and 60,000 ms, which then hold": an interval of 60,000 and, with no subscription, a timeout of 15,000.
  pub granted-interval-stays : expired true 121999 (granted 15000 60000 kept_alive) ≡ false
  pub granted-interval-ends : expired true 122000 (granted 15000 60000 kept_alive) ≡ true
  pub granted-timeout-stays : expired false 60999 (granted 30000 60000 kept_alive) ≡ false
  pub granted-timeout-ends : expired false 61000 (granted 30000 60000 kept_alive) ≡ true
  -- "or, with no live subscription, elapsed inactivity is at least the greater of 5,000 and twice the timeout."
  pub subscribed-stays : expired true 31000 kept_alive ≡ false
  pub least_stays : expired false 5999 (granted 2000 60000 kept_alive) ≡ false
  pub least-ends : expired false 6000 (granted 2000 60000 kept_alive) ≡ true

pub ticks : Ticks
unfolding started received granted expired
ticks =
    record {
      idle-stays = refl;
      idle-ends = refl;
      spoken-stays = refl;
      spoken-ends = refl;
      spoken-subscribed-stays = refl;
      spoken-subscribed-ends = refl;
      kept-alive-stays = refl;
      kept-alive-ends = refl;
      kept-alive-subscribed-stays = refl;
      kept-alive-subscribed-ends = refl;
      granted-interval-stays = refl;
      granted-interval-ends = refl;
      granted-timeout-stays = refl;
      granted-timeout-ends = refl;
      subscribed-stays = refl;
      least_stays = refl;
      least-ends = refl;
    }

-- ---- when a session is aborted

-- At the time of its start no session is, whatever it has.
pub expired-started : (subscribed : Bool) (t : ℕ) → expired subscribed t (started t) ≡ false
unfolding started expired
expired-started subscribed t =
    ap₂ (λ (a b : Bool). a || not subscribed && b) (lt-leb _ (t - t) (omega arith)) (lt-leb _ (t - t) (omega arith))
    ∙ and-false (not subscribed)

-- Nor at the time of a message that restarts both clocks.
pub expired-received : (subscribed : Bool) (t : ℕ) (c : Clocks) → 0 < c.keepalive → expired subscribed t (received false t c) ≡ false
unfolding received expired
expired-received subscribed t c h =
    ap₂ (λ (a b : Bool). a || not subscribed && b) (lt-leb _ (t - t) (omega arith)) (lt-leb _ (t - t) (omega arith))
    ∙ and-false (not subscribed)
