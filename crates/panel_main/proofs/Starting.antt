-- A session from a working memory and with an output that are known otherwise. Assumes nothing.
use mathlib.Core.Path.{◌≡◌, subst}
use mathlib.Core.List.{List}
use Prim.Native.Nat.{ℕ}
use Rattle.call_forms.specs.History.{State}
use Rattle.panel_session.specs.Session.{SessionOf, Totals, start}

pub session-at : {room room' : ℕ} {n : Totals} {work : List ℕ} {t : State} → room ≡ room' → work ≡ start.work
    → SessionOf room (record { memory = start.memory; work = work; pins = start.pins }) n t → SessionOf room' start n t
session-at {room} {room'} {n} {work} {t} e f x =
    subst (λ (k : ℕ). SessionOf k start n t) e
    (subst (λ (w : List ℕ). SessionOf room (record { memory = start.memory; work = w; pins = start.pins }) n t) f x)
