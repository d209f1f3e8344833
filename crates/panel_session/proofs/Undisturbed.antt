-- What is printed for a user's commands is what a session prints that has these commands, and those by which a circuit was loaded, and no
-- others. Clause 12.7. Assumes nothing.
use mathlib.Core.Path.{◌≡◌, refl, sym, ap, ap₂, ◌∙◌, subst}
use mathlib.Core.Bool.{Bool, true, false, cond, ◌||◌}
use mathlib.Core.List.{List, [], ◌∷◌, map}
use mathlib.Core.Logic.{⊎_elim}
use mathlib.Core.Option.{Option, none, some}
use Prim.Native.Nat.{ℕ}
use native.Mathlib.Omega.{arith}
use lib.Dec.{T, eqb, eqb→eq}
use lib.ListN.{length}
use Rattle.aiger.specs.Text.{bytes}
use Rattle.aiger.specs.Circuit.{Circuit}
use Rattle.aiger.specs.Load.{Answer, refused, gives, load}
use Rattle.aiger.proofs.Tests.{T_true, or_cases}
use Rattle.meaning.proofs.Lists.{or_left, or_right, eqb_of}
use Rattle.replies.specs.Refusal.{refusal_text}
use Rattle.replies.specs.Reply.{Reply}
use Rattle.call_forms.specs.History as History
use Rattle.call_forms.specs.History.{Same}
use Rattle.history.proofs.Calls.{own-step, load_step, other_step}
use Rattle.history.proofs.Moves.{Moved, own-moves, accepted-moves}
use Rattle.panel_lines.specs.Grammar.{Command, parse}
use Rattle.panel_lines.specs.declared.Query.{Query}
use Rattle.panel_lines.specs.declared.Query.TheVariants.{Pin, Search, Fold, Write, Generate, SearchFrom}
use Rattle.panel_lines.specs.declared.View.{View}
use Rattle.panel_lines.specs.declared.View.TheVariants.{Replay, Widen, Waveform}
use Rattle.panel_names.specs.Naming.{files_of}
use Rattle.panel_session.specs.Session.{Files, Action, join_action, query_call, view_call, action_of, may_ask, request_action}
use Rattle.panel_session.specs.Session.{call_reply, Turn, Exchange, Session, is_of, concerning}

-- ---- whose call a request is

query-user : (room user : ℕ) (q : Query) → History.user_of (query_call room user q) ≡ user
query-user room user (Pin input value) = refl
query-user room user (Search b k D) = refl
query-user room user (Fold b t) = refl
query-user room user (Write form) = refl
query-user room user (Generate seed i l a) = refl
query-user room user (SearchFrom b t place D) = refl

view-user : (room user : ℕ) (witness : List ℕ) (v : View) → History.user_of (view_call room user witness v) ≡ user
view-user room user witness Replay = refl
view-user room user witness Widen = refl
view-user room user witness (Waveform only) = refl

-- the call of an action
abbrev CallsFor : ℕ → Action → Type 0
CallsFor user (Action.calls c) = History.user_of c ≡ user
CallsFor user (Action.prints t) = Unit {0}

join-user : (a b : Answer Circuit) → CallsFor 0 (join_action a b)
join-user (refused n) b = tt
join-user (gives c) (refused n) = tt
join-user (gives c) (gives d) = refl

action-user : (room user : ℕ) (first second : List ℕ) (c : Command) → CallsFor user (action_of room user first second c)
action-user room user first second (Command.query q) = query-user room user q
action-user room user first second (Command.load f) = refl
action-user room user first second (Command.preview f) = refl
action-user room user first second (Command.join old new) = go (eqb user 0) (λ t. eqb→eq user 0 t)
  where
    go : (b : Bool) → (T b → user ≡ 0) → CallsFor user (cond b (join_action (load 33032 first) (load 33032 second)) (Action.prints (refusal_text 18)))
    go true e = subst (λ (n : ℕ). CallsFor n (join_action (load 33032 first) (load 33032 second))) (sym (e tt)) (join-user (load 33032 first) (load 33032 second))
    go false e = tt
action-user room user first second (Command.view v f) = view-user room user first v

request-user : (room : ℕ) (files : Files) (r : ℕ × Command) → CallsFor r.0 (request_action room files (some r))
request-user room Files.unread r = tt
request-user room Files.missing r = go (eqb (length (files_of r.1)) 0)
  where
    go : (b : Bool) → CallsFor r.0 (cond b (action_of room r.0 [] [] r.1) (Action.prints (cond (may_ask r.0 r.1) (bytes "unreadable\n") (refusal_text 18))))
    go true = action-user room r.0 [] [] r.1
    go false = tt
request-user room (Files.read first second) r = action-user room r.0 first second r.1

-- a request that is a call of user u is a request of user u
caller : (room : ℕ) (files : Files) (u : ℕ) (o : Option (ℕ × Command)) {c : History.Call} → request_action room files o ≡ Action.calls c
    → (T (is_of u o) → History.user_of c ≡ u) × (History.user_of c ≡ u → T (is_of u o))
caller room Files.unread u none e = let z : ◌≡◌ {A = ℕ} 0 1 = cc in absurd (omega arith)
caller room Files.missing u none e = let z : ◌≡◌ {A = ℕ} 0 1 = cc in absurd (omega arith)
caller room (Files.read first second) u none e = let z : ◌≡◌ {A = ℕ} 0 1 = cc in absurd (omega arith)
caller room files u (some r) {c} e =
    let h : CallsFor r.0 (Action.calls c) = subst (CallsFor r.0) e (request-user room files r) in
    ((λ t. h ∙ eqb→eq r.0 u t), λ q. eqb_of (sym h ∙ q))

-- ---- one request

false-not : (b : Bool) → b ≡ false → T b → ⊥
false-not true e t = subst T e t
false-not false e t = t

-- a turn from t, to a state that is the same to user u as s₁
record TurnFrom (u room : ℕ) (request : List ℕ) (files : Files) (t : History.State) (reply : Reply) (loaded : Bool) (s₁ : History.State) : Type 0 where
  next : History.State
  turn : Turn room request files t reply loaded next
  same : Same u s₁ next

module _ (u : ℕ) {room : ℕ} {request : List ℕ} {files : Files} {s t : History.State} (a : Same u s t) where
  -- what concerns user u is answered the same from any state that is the same to u
  turned : {reply : Reply} {loaded : Bool} {s₁ : History.State} → T (is_of u (parse request) || loaded) → Turn room request files s reply loaded s₁
      → TurnFrom u room request files t reply loaded s₁
  turned h (Turn.prints e) = record { next = t; turn = Turn.prints e; same = a }
  turned h (Turn.calls {call = c} {returned = r} {s' = s₁} e x) =
      let m : Moved u t c r s₁ =
      ⊎_elim
      (λ k.
      let q = (caller room files u (parse request) e).0 k in
      subst (λ (v : ℕ). Moved v t c r s₁) q (own-moves (subst (λ (v : ℕ). Same v s t) (sym q) a) x))
      (λ k. accepted-moves u a k x)
      (or_cases (is_of u (parse request)) (History.is_accepted r) h) in
      record {
        next = m.next;
        turn = Turn.calls e m.step;
        same = m.same;
      }

  -- what does not concern user u leaves a state that is the same to u
  passed : {reply : Reply} {loaded : Bool} {s₁ : History.State} → (T (is_of u (parse request) || loaded) → ⊥) → Turn room request files s reply loaded s₁ → Same u s₁ t
  passed h (Turn.prints e) = a
  passed h (Turn.calls {returned = r} e x) =
      other_step u a (λ q. h (or_left (is_of u (parse request)) (History.is_accepted r) ((caller room files u (parse request) e).1 q)))
      (λ q. h (or_right (is_of u (parse request)) (History.is_accepted r) q)) x

-- a session from t, to a state that is the same to user u as s'
pub record Apart (u room : ℕ) (t : History.State) (es : List Exchange) (s' : History.State) : Type 0 where
  pub final : History.State
  pub session : Session room t es final
  pub same : Same u s' final

-- the theorem: the exchanges that concern user u are a session by themselves, with the same replies, to a state that is the same to u
pub apart : (u : ℕ) {room : ℕ} (es : List Exchange) {s t s' : History.State} → Same u s t → Session room s es s' → Apart u room t (concerning u es) s'
unfolding concerning
apart u [] {t = t} a Session.ends = record { final = t; session = Session.ends; same = a }
apart u {room} (x ∷ xs) {s} {t} {s'} a (Session.goes {s' = s₁} st h) =
    go (is_of u (parse x.request) || x.loaded) refl (λ t' b. apart u xs {s = s₁} {t = t'} b h)
  where
    go : (b : Bool) → (is_of u (parse x.request) || x.loaded) ≡ b → ((t' : History.State) → Same u s₁ t' → Apart u room t' (concerning u xs) s')
        → Apart u room t (cond b (x ∷ concerning u xs) (concerning u xs)) s'
    go true c f =
        let m = turned u a (T_true c) st in
        let k = f m.next m.same in
        record { final = k.final; session = Session.goes m.turn k.session; same = k.same }
    go false c f = f t (passed u a (λ q. false-not (is_of u (parse x.request) || x.loaded) c q) st)

-- ---- a session has one outcome

-- the two actions of one request are one
calls-one : {c d : History.Call} → Action.calls c ≡ Action.calls d → c ≡ d
calls-one {c} {d} e = ap call_of e
  where
    call_of : Action → History.Call
    call_of (Action.calls x) = x
    call_of (Action.prints x) = c

module _ (u : ℕ) {room : ℕ} {request : List ℕ} {files : Files} {s t : History.State} (a : Same u s t) where
  -- what concerns user u has one reply
  turn_one : {reply reply' : Reply} {loaded loaded' : Bool} {s₁ t₁ : History.State} → T (is_of u (parse request) || loaded)
      → Turn room request files s reply loaded s₁ → Turn room request files t reply' loaded' t₁ → (reply ≡ reply') × (loaded ≡ loaded') × Same u s₁ t₁
  turn_one h (Turn.prints e) (Turn.prints f) =
      let z = sym e ∙ f in
      (ap (λ (v : List ℕ). record { line = v; out = [] }) (let q : ◌≡◌ {A = List ℕ} _ _ = cc in q), refl, a)
  turn_one h (Turn.prints e) (Turn.calls f y) = let z : ◌≡◌ {A = ℕ} 0 1 = cc in absurd (omega arith)
  turn_one h (Turn.calls e x) (Turn.prints f) = let z : ◌≡◌ {A = ℕ} 0 1 = cc in absurd (omega arith)
  turn_one h (Turn.calls {call = c} {returned = r} {s' = s₁} e x) (Turn.calls {call = d} {returned = r'} {s' = t₁} f y) =
      let q : d ≡ c = calls-one (sym f ∙ e) in
      let y' : History.Step t c r' t₁ = subst (λ (v : History.Call). History.Step t v r' t₁) q y in
      let z : (r ≡ r') × Same u s₁ t₁ =
      ⊎_elim
      (λ k.
      let o = (caller room files u (parse request) e).0 k in
      let v = own-step (subst (λ (i : ℕ). Same i s t) (sym o) a) x y' in
      (v.0, subst (λ (i : ℕ). Same i s₁ t₁) o v.1))
      (λ k. load_step u a k x y')
      (or_cases (is_of u (parse request)) (History.is_accepted r) h) in (
        ap call_reply z.0,
        ap History.is_accepted z.0,
        z.1,
      )

-- what was asked, and what was printed
abbrev asked : List Exchange → List (List ℕ × Files)
asked es = map {B = List ℕ × Files} (λ (e : Exchange). (e.request, e.files)) es

abbrev replies_of : List Exchange → List Reply
replies_of es = map (λ (e : Exchange). e.reply) es

-- the theorem: let two sessions start from states that are the same to user u. If the second has just those requests of the first that
-- concern u, with the same files, then it prints the same replies to them, and the two end in states that are the same to u
pub undisturbed : (u : ℕ) {room : ℕ} (es es₂ : List Exchange) {s t s' t' : History.State} → Same u s t → Session room s es s' → Session room t es₂ t'
    → map {B = List ℕ × Files} (λ (e : Exchange). (e.request, e.files)) es₂ ≡ map {B = List ℕ × Files} (λ (e : Exchange). (e.request, e.files)) (concerning u es)
    → (map (λ (e : Exchange). e.reply) es₂ ≡ map (λ (e : Exchange). e.reply) (concerning u es)) × Same u s' t'
unfolding concerning
undisturbed u [] [] a Session.ends Session.ends e = (refl, a)
undisturbed u [] (x ∷ xs) a h k e = let z : ◌≡◌ {A = ℕ} 0 1 = cc in absurd (omega arith)
undisturbed u {room} (x ∷ xs) es₂ {s} {t} {s'} {t'} a (Session.goes {s' = s₁} st h) k e =
    go (is_of u (parse x.request) || x.loaded) refl es₂ k e (λ ys v b l d. undisturbed u xs ys {s = s₁} {t = v} b h l d)
  where
    go : (b : Bool) → (is_of u (parse x.request) || x.loaded) ≡ b → (es₂ : List Exchange) → Session room t es₂ t'
        → asked es₂ ≡ asked (cond b (x ∷ concerning u xs) (concerning u xs))
        → ((ys : List Exchange) (v : History.State) → Same u s₁ v → Session room v ys t' → asked ys ≡ asked (concerning u xs)
        → (replies_of ys ≡ replies_of (concerning u xs)) × Same u s' t')
        → (replies_of es₂ ≡ replies_of (cond b (x ∷ concerning u xs) (concerning u xs))) × Same u s' t'
    go true c [] k d f = let z : ◌≡◌ {A = ℕ} 0 1 = cc in absurd (omega arith)
    go true c (y ∷ ys) (Session.goes {s' = t₁} su l) d f =
        let one : ◌≡◌ {A = List ℕ × Files} (y.request, y.files) (x.request, x.files) = cc in
        let rest : asked ys ≡ asked (concerning u xs) = cc in
        let z =
        turn_one u a (T_true c) st
        (subst (λ (v : List ℕ × Files). Turn room v.0 v.1 t y.reply y.loaded t₁) one su) in
        let q = f ys t₁ z.2 l rest in
        (ap₂ ◌∷◌ (sym z.0) q.0, q.1)
    go false c ys k d f = f ys t (passed u a (λ q. false-not (is_of u (parse x.request) || x.loaded) c q) st) k d
