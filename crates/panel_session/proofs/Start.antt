-- The resident program starts with no circuit and with all pins free, and what is printed for a user's requests from there on is what a
-- session prints that starts there with these requests, and those by which a circuit was loaded, and no others. Clause 12.7.
-- Assumes nothing.
use mathlib.Core.Path.{◌≡◌, refl, sym, ap, ◌∙◌}
use mathlib.Core.List.{List, [], ◌∷◌, ◌++◌, map}
use Prim.Native.Nat.{ℕ, ◌+◌, ◌*◌, ◌%◌}
use native.Mathlib.Omega.{arith}
use native.Mathlib.Decide.{dec_lt}
use lib.Seq.{get_or-take, get_or-drop}
use lib.ListN.{length, take, drop, replicate, length-append, length-replicate, length-take, get_or-replicate, get_or-eq_default}
use Rattle.aiger.specs.Circuit.{Circuit}
use Rattle.aiger.specs.Operations.{HoldsNone}
use Rattle.meaning.proofs.Lists.{get_d-same}
use Rattle.layout.specs.Words.{word, circuit_in}
use Rattle.roundtrip.proofs.Holding.{held, held-valid}
use Rattle.pins.specs.Pins.{pins_of}
use Rattle.call_forms.specs.History.{State, Same}
use Rattle.panel_session.specs.Session.{Files, Turn, Exchange, Session, SessionOf, Totals, no_totals, asked_bytes, told_bytes, one_more, concerning, start}
use Rattle.panel_session.proofs.Undisturbed.{Apart, apart, undisturbed}

-- a first word that is the M of no circuit
no-circuit : (m : List ℕ) → length m ≡ 33032 → word m 0 ≡ 4294967295 → HoldsNone m
unfolding circuit_in
no-circuit m l w c h =
    let v : c.max_var ≡ 4294967295 = ap (λ (d : Circuit). d.max_var) (sym (held h)) ∙ w in
    omega (arith, (held-valid h).held)

pub start-empty : HoldsNone start.memory
unfolding start
start-empty =
    no-circuit (replicate 33032 4294967295) (length-replicate {A = ℕ} 33032 4294967295)
    (get_or-replicate {A = ℕ} 33032 0 4294967295 0 (omega arith))

pub start-free : (user i : ℕ) → pins_of start.pins user i ≡ 2
unfolding start pins_of
start-free user i =
    let p : List ℕ = replicate 512 2 in
    elim (dec_lt i 256) [
      | yes l ↦ get_or-take 256 (drop (256 * user) p) i 2 l ∙ get_or-drop (256 * user) p i 2 ∙ get_d-same 512 2 (256 * user + i)
      | no l ↦ get_or-eq_default (take 256 (drop (256 * user) p)) 2 {n = i} (omega (arith, length-take 256 (drop (256 * user) p)))
    ]

-- a state is the same as itself
itself : (u : ℕ) (s : State) → Same u s s
itself u s = record { memory = refl; work = refl; room = refl; own = λ i l. refl }

-- the theorems of what the loop of the resident program ensures, from the start on. Its exchanges that concern user u are a session by
-- themselves, which starts there too
pub loop-apart : (u : ℕ) {room : ℕ} {n : Totals} {t : State} (a : SessionOf room start n t) → Apart u room start (concerning u a.exchanges) t
loop-apart u a = apart u a.exchanges (itself u start) a.session

-- let two runs have the same requests that concern u, with the same files, and the second no others: it prints the same replies to them,
-- and leaves a state that is the same to u
pub loop-undisturbed : (u : ℕ) {room : ℕ} {n n₂ : Totals} {t t₂ : State} (a : SessionOf room start n t) (b : SessionOf room start n₂ t₂)
    → map {B = List ℕ × Files} (λ (e : Exchange). (e.request, e.files)) b.exchanges
    ≡ map {B = List ℕ × Files} (λ (e : Exchange). (e.request, e.files)) (concerning u a.exchanges)
    → (map (λ (e : Exchange). e.reply) b.exchanges ≡ map (λ (e : Exchange). e.reply) (concerning u a.exchanges)) × Same u t t₂
loop-undisturbed u a b = undisturbed u a.exchanges b.exchanges (itself u start) a.session b.session

-- ---- no requests, and one more: the loop goes on from there

pub session-none : {room : ℕ} (s : State) → SessionOf room s no_totals s
unfolding asked_bytes told_bytes
session-none s = record { exchanges = []; count = refl; asked = refl; told = refl; session = Session.ends }

session-more : {room : ℕ} (es : List Exchange) (e : Exchange) {s s' t : State} → Session room s es s'
    → Turn room e.request e.files s' e.reply e.loaded t → Session room s (es ++ (e ∷ [])) t
session-more [] e Session.ends x = Session.goes x Session.ends
session-more (y ∷ ys) e (Session.goes z h) x = Session.goes z (session-more ys e h x)

asked-more : (es : List Exchange) (e : Exchange) → asked_bytes (es ++ (e ∷ [])) ≡ asked_bytes es + length e.request
unfolding asked_bytes
asked-more [] e = omega arith
asked-more (x ∷ es) e = let z = asked-more es e in omega (arith, z)

told_more : (es : List Exchange) (e : Exchange) → told_bytes (es ++ (e ∷ [])) ≡ told_bytes es + (length e.reply.line + length e.reply.out)
unfolding told_bytes
told_more [] e = omega arith
told_more (x ∷ es) e = let z = told_more es e in omega (arith, z)

-- a sum modulo 2^64, where one part was taken modulo 2^64 before
wrapped : {n m : ℕ} (a k : ℕ) → m ≡ a + k → a % 18446744073709551616 ≡ n → m % 18446744073709551616 ≡ (n + k) % 18446744073709551616
wrapped a k e f = omega (arith, e, f)

pub one_more_lem : {room : ℕ} {n : Totals} {s s' t : State} (e : Exchange) → SessionOf room s n s'
    → Turn room e.request e.files s' e.reply e.loaded t
    → SessionOf room s (one_more n (length e.request) (length e.reply.line + length e.reply.out)) t
one_more_lem e a x =
    record {
      exchanges = a.exchanges ++ (e ∷ []);
      count = length-append a.exchanges (e ∷ []) ∙ ap (λ (k : ℕ). k + 1) a.count;
      asked = wrapped (asked_bytes a.exchanges) (length e.request) (asked-more a.exchanges e) a.asked;
      told = wrapped (told_bytes a.exchanges) (length e.reply.line + length e.reply.out) (told_more a.exchanges e) a.told;
      session = session-more a.exchanges e a.session x;
    }
