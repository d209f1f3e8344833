-- What a turn adds to a session. Assumes nothing.
use Rattle.std.proofs.Common.{◌≡◌, ℕ, ◌+◌, ◌-◌, ◌%◌, ◌<◌, ◌≤◌, Bool, true, false, cond, ◌||◌, List, length, take, sym, refl, ap, ◌∙◌, subst, ap₂, arith, length-take-le}
use lib.ListN.{length-replicate}
use Rattle.call_forms.specs.History.{State}
use Rattle.panel_session.specs.Session.{Files, Exchange, Totals, SessionOf, no_totals, one_more, start}
use Rattle.panel_session.specs.Answered.{Answered}
use Rattle.panel_session.specs.declared.Response.{Response}
use Rattle.panel_input.specs.Line.{Received}
use Rattle.panel_input.specs.declared.gathering.RequestLine.{RequestLine}
use Rattle.panel_session.proofs.Start.{session-none, one_more_lem}
use Rattle.panel_serving.specs.Serving.{Sized, Serves, Turns, state_of, totals_of, tallied}
use Rattle.input.specs.Reading.{IsPrefixLen}
use Rattle.input.specs.Contents.{Within, Whole, text_of}
use Rattle.input.specs.declared.content.Content.{Content}
use Rattle.files.specs.declared.NamedFile.{NamedFile}
use Rattle.panel_fetching.specs.Fetching.{Fetches}
use Rattle.panel_fetching.specs.declared.Fetched.{Fetched}
use Rattle.panel_serving.specs.declared.telling.Told.{Told}
use Rattle.panel_serving.specs.declared.serving.Served.{Served}
use Rattle.panel_serving.specs.declared.turning.Resident.{Resident}
use Rattle.panel_serving.specs.declared.turning.Tally.{Tally}
use Rattle.panel_serving.specs.declared.turning.Turned.{Turned}

-- how many bytes an answer has
answered-long : {request : List ℕ} {files : Files} {s s' : State} {out out' : List ℕ} {r : Response}
    → (a : Answered request files s out r s' out') → length a.reply.line + length a.reply.out ≡ r.count + r.out
answered-long {r = r} a =
    let l = ap length a.line-is.contents in
    omega (arith, l, length-take-le r.count r.line a.line-is.inside, a.out-is.long)

-- an answer is one exchange more
answered-more : {request : List ℕ} {files : Files} {s₀ s s' : State} {out out' : List ℕ} {r : Response} {room k : ℕ} {n : Totals}
    → length out ≡ room → length request ≡ k → SessionOf room s₀ n s → Answered request files s out r s' out'
    → SessionOf room s₀ (one_more n k (r.count + r.out)) s'
answered-more {request} {files} {s₀} {s} {s'} {out} {r = r} {k = k} {n = n} e l x a =
    let y = subst (λ (i : ℕ). SessionOf i s₀ n s) (sym e) x in
    let z = one_more_lem (record { request = request; files = files; reply = a.reply; loaded = a.loaded }) y a.turn in
    let long = length a.reply.line + length a.reply.out in
    subst (λ (i : ℕ). SessionOf i s₀ (one_more n k (r.count + r.out)) s') e
    (subst (λ (i : ℕ). SessionOf (length out) s₀ (one_more n k i) s') (answered-long a)
    (subst (λ (i : ℕ). SessionOf (length out) s₀ (one_more n i long) s') l z))

-- ---- the totals after a turn

module _ (n : Totals) (q : RequestLine) (r : Response) where
  pub tallied-failed : q.failed ≡ true → one_more n q.count (r.count + r.out) ≡ tallied n q r
  tallied-failed f =
      ap
      (λ (b : Bool).
      cond b (one_more n q.count (r.count + r.out)) (cond q.ended n (one_more n q.count (r.count + r.out))))
      (sym f)

  pub tallied-ended : q.failed ≡ false → q.ended ≡ true → n ≡ tallied n q r
  tallied-ended f e =
      ap₂
      (λ (b d : Bool). cond b (one_more n q.count (r.count + r.out)) (cond d n (one_more n q.count (r.count + r.out))))
      (sym f) (sym e)

  pub tallied-read : q.failed ≡ false → q.ended ≡ false → one_more n q.count (r.count + r.out) ≡ tallied n q r
  tallied-read f e =
      ap₂
      (λ (b d : Bool). cond b (one_more n q.count (r.count + r.out)) (cond d n (one_more n q.count (r.count + r.out))))
      (sym f) (sym e)

  requests-more : q.ended ≡ false → (tallied n q r).requests ≡ n.requests + 1
  requests-more e =
      ap
      (λ (d : Bool).
      (cond q.failed (one_more n q.count (r.count + r.out)) (cond d n (one_more n q.count (r.count + r.out)))).requests)
      e
      ∙ go q.failed
    where
      go : (a : Bool) → (cond a (one_more n q.count (r.count + r.out)) (one_more n q.count (r.count + r.out))).requests ≡ n.requests + 1
      go true = refl
      go false = refl

-- a turn is one exchange more, or none
turn-adds : {s₀ s s' : State} {out out' : List ℕ} {r : Turned} {room : ℕ} {n : Totals} → length out ≡ room
    → Received r.request → SessionOf room s₀ n s → Turns s out r s' out'
    → SessionOf room s₀ (tallied n r.request r.served.told.response) s'
turn-adds {s₀ = s₀} {s' = s'} {r = r} {room = room} {n = n} e q x (Turns.unread f a) =
    subst (λ (i : Totals). SessionOf room s₀ i s') (tallied-failed n r.request r.served.told.response f)
    (answered-more e (sym q.counts.1) x a)
turn-adds {s₀ = s₀} {s' = s'} {r = r} {room = room} {n = n} e q x (Turns.ends f d c o) =
    subst (λ (i : Totals). SessionOf room s₀ i s') (tallied-ended n r.request r.served.told.response f d) x
turn-adds {s₀ = s₀} {s' = s'} {r = r} {room = room} {n = n} e q x (Turns.serves f d a) =
    subst (λ (i : Totals). SessionOf room s₀ i s') (tallied-read n r.request r.served.told.response f d)
    (answered-more e (sym q.counts.1) x a.answered)

pub turn_more : {s₀ s s' : State} {out out' : List ℕ} {r : Turned} {room : ℕ} {n k : Totals} → length out ≡ room → SessionOf room s₀ n s
    → Turns s out r s' out' → k ≡ n → totals_of r.after.tally ≡ tallied k r.request r.served.told.response → Received r.request
    → SessionOf room s₀ (totals_of r.after.tally) s'
turn_more {s₀ = s₀} {s' = s'} {r = r} {room = room} e x y p q d =
    subst (λ (i : Totals). SessionOf room s₀ i s')
    (sym (q ∙ ap (λ (i : Totals). tallied i r.request r.served.told.response) p)) (turn-adds e d x y)

-- the session that has no request yet
pub begun-session : {room : ℕ} (r : Resident) (work : List ℕ) → r.memory ≡ start.memory → r.pins ≡ start.pins
    → SessionOf room (record { memory = start.memory; work = work; pins = start.pins }) no_totals (state_of r work)
begun-session {room} r work e f =
    subst (λ (m : List ℕ). SessionOf room (record { memory = start.memory; work = work; pins = start.pins }) no_totals (record { memory = m; work = work; pins = r.pins }))
    (sym e)
    (subst (λ (p : List ℕ). SessionOf room (record { memory = start.memory; work = work; pins = start.pins }) no_totals (record { memory = start.memory; work = work; pins = p }))
    (sym f) (session-none (record { memory = start.memory; work = work; pins = start.pins })))

pub begun_sized : {r : Resident} → r.memory ≡ start.memory → r.pins ≡ start.pins → Sized r
unfolding start
begun_sized e f = record { memory = ap length e ∙ length-replicate {A = ℕ} 33032 4294967295; pins = ap length f ∙ length-replicate {A = ℕ} 512 2 }

-- a session that goes on from the same state
pub state-same : {room : ℕ} {n : Totals} {s₀ : State} {a b : Resident} (work : List ℕ) → b ≡ a → SessionOf room s₀ n (state_of a work)
    → SessionOf room s₀ n (state_of b work)
state-same {room} {n} {s₀} work e x = subst (λ (r : Resident). SessionOf room s₀ n (state_of r work)) (sym e) x

pub sized_same : {a b : Resident} → b ≡ a → Sized a → Sized b
sized_same e x = subst Sized (sym e) x

-- ---- a request that was read

-- what was read of a file, as a part of its bytes
module _ {bs : List ℕ} {n : ℕ} {c : Content} {g h : NamedFile} (p : bs ≡ c.bytes) (q : n ≡ c.count) (r : c ≡ g.content) (e : g ≡ h) where
  content-same : c ≡ h.content
  content-same = r ∙ ap (λ (x : NamedFile). x.content) e

  pub text-is : take n bs ≡ text_of h.content
  text-is = (λ i. take (q i) (p i)) ∙ ap text_of content-same

  pub text-inside : Whole h.content → IsPrefixLen n bs
  text-inside w =
      let v : Within c = subst Within (sym content-same) w.within in
      let inside : n ≤ length bs = omega (arith, q, ap length p, v.inside, v.long) in
      (inside, sym (length-take-le n bs inside))

-- one of its files could not be read
pub serves-missing : {request : List ℕ} {f : Fetched} {t : Told} (s : State) (out : List ℕ) → Fetches request f → f.failed ≡ true
    → ((s : State) (out : List ℕ) → Answered request Files.missing s out t.response s out)
    → Serves request s out (record { fetched = f; told = t }) s out
serves-missing {request} {f} {t} s out x e a =
    record {
      fetches = x;
      answered =
          subst
          (λ (d : Bool).
          Answered request (cond d Files.missing (Files.read (text_of f.old.content) (text_of f.new.content))) s out t.response s out)
          (sym e) (a s out);
    }

-- they were read
pub serves-read : {request first second : List ℕ} {f : Fetched} {t : Told} {s s' : State} {out out' : List ℕ} → Fetches request f
    → f.failed ≡ false → first ≡ text_of f.old.content → second ≡ text_of f.new.content
    → Answered request (Files.read first second) s out t.response s' out' → Serves request s out (record { fetched = f; told = t }) s' out'
serves-read {request} {first} {second} {f} {t} {s} {s'} {out} {out'} x e p q a =
    record {
      fetches = x;
      answered =
          subst
          (λ (d : Bool).
          Answered request (cond d Files.missing (Files.read (text_of f.old.content) (text_of f.new.content))) s out t.response s' out')
          (sym e)
          (subst (λ (k : List ℕ). Answered request (Files.read (text_of f.old.content) k) s out t.response s' out') q
          (subst (λ (k : List ℕ). Answered request (Files.read k second) s out t.response s' out') p a));
    }

-- ---- a turn

pub turns-unread : {q : RequestLine} {f : Fetched} {t : Told} {k : Resident} (s : State) (out : List ℕ) → q.failed ≡ true
    → ((request : List ℕ) (s : State) (out : List ℕ) → Answered request Files.unread s out t.response s out)
    → Turns s out (record { request = q; served = record { fetched = f; told = t }; after = k }) s out
turns-unread {q = q} {t = t} s out e a = Turns.unread e (a (take q.count q.line) s out)

-- the bytes of the line
pub serves-line : (q : RequestLine) {v : Served} {line : List ℕ} {n : ℕ} {s s' : State} {out out' : List ℕ} → line ≡ q.line → n ≡ q.count
    → Serves (take n line) s out v s' out' → Serves (take q.count q.line) s out v s' out'
serves-line q {v} {line} {n} {s} {s'} {out} {out'} l c x =
    subst (λ (w : List ℕ). Serves (take q.count w) s out v s' out') l
    (subst (λ (i : ℕ). Serves (take i line) s out v s' out') c x)

pub turns-serves : {q : RequestLine} {r : Turned} {s s' : State} {out out' : List ℕ} → r.request ≡ q → q.failed ≡ false → q.ended ≡ false
    → Serves (take q.count q.line) s out r.served s' out' → Turns s out r s' out'
turns-serves {q} {r} {s} {s'} {out} {out'} p e d x =
    Turns.serves (ap (λ (z : RequestLine). z.failed) p ∙ e) (ap (λ (z : RequestLine). z.ended) p ∙ d)
    (subst (λ (z : RequestLine). Serves (take z.count z.line) s out r.served s' out') (sym p) x)

pub tallied-served : {q : RequestLine} (r : Turned) (n : Totals) → r.request ≡ q → q.failed ≡ false → q.ended ≡ false
    → totals_of r.after.tally ≡ one_more n q.count (r.served.told.response.count + r.served.told.response.out)
    → totals_of r.after.tally ≡ tallied n r.request r.served.told.response
tallied-served {q} r n p e d t =
    t ∙ tallied-read n q r.served.told.response e d
    ∙ ap (λ (z : RequestLine). tallied n z r.served.told.response) (sym p)

pub received-same : {q q' : RequestLine} → q' ≡ q → Received q → Received q'
received-same p x = subst Received (sym p) x

-- ---- what is counted

-- a sum modulo 2^64, where its second part was taken modulo 2^64 before
pub wrapped : {k n : ℕ} (a b : ℕ) → n ≡ b % 18446744073709551616 → k ≡ (a + n) % 18446744073709551616 → k ≡ (a + b) % 18446744073709551616
wrapped a b e f = omega (arith, e, f)

-- how many requests can be answered after a turn: none where the input has no more
abbrev pub left : Turned → ℕ
left t = cond t.request.ended 0 (18446744073709551616 - t.after.tally.requests)

pub left_less : (t t' : Turned) {k : Tally} → t.request.ended ≡ false → t.after.tally.requests < 18446744073709551615 → k ≡ t.after.tally
    → totals_of t'.after.tally ≡ tallied (totals_of k) t'.request t'.served.told.response → left t' < left t
left_less t t' {k} e l p q =
    subst (λ (b : Bool). left t' < cond b 0 (18446744073709551616 - t.after.tally.requests)) (sym e)
    (go t'.request.ended (requests-more (totals_of k) t'.request t'.served.told.response))
  where
    go : (b : Bool) → (b ≡ false → (tallied (totals_of k) t'.request t'.served.told.response).requests ≡ k.requests + 1)
        → cond b 0 (18446744073709551616 - t'.after.tally.requests) < 18446744073709551616 - t.after.tally.requests
    go true f = omega (arith, l)
    go false f =
        let z : t'.after.tally.requests ≡ k.requests + 1 = ap (λ (n : Totals). n.requests) q ∙ f refl in
        let y = ap (λ (x : Tally). x.requests) p in
        omega (arith, l, z, y)

-- ---- what is printed is what was answered

pub answered-as : {request : List ℕ} {files : Files} {s s' : State} {out out' : List ℕ} {r q : Response} → q ≡ r
    → Answered request files s out r s' out' → Answered request files s out q s' out'
answered-as {request} {files} {s} {s'} {out} {out'} e a = subst (λ (z : Response). Answered request files s out z s' out') (sym e) a

pub differ : {A : Type 0} → false ≡ true → A
differ e = let z : ◌≡◌ {A = ℕ} 0 1 = ap (λ (b : Bool). cond b 1 0) e in absurd (omega (arith, z))
