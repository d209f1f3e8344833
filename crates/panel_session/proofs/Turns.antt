-- From what the commands leave to the turn that a request is. Assumes nothing.
use mathlib.Core.Path.{◌≡◌, refl, sym, ap, ◌∙◌, subst}
use mathlib.Core.Bool.{Bool, false, cond}
use mathlib.Core.List.{List, []}
use mathlib.Core.Option.{some}
use mathlib.Core.Logic.{⊎_elim}
use Prim.Native.Nat.{ℕ, ◌≤◌}
use native.Mathlib.Omega.{arith}
use native.Mathlib.Decide.{dec_lt}
use borrow.Author.Tests.{lt-ltb, le-ltb, ne_eqb}
use lib.ListN.{length, take, drop, replicate, length-replicate}
use Rattle.aiger.specs.Circuit.{Circuit}
use Rattle.aiger.specs.Load.{Answer, refused, gives, load, ◌>>=◌}
use Rattle.aiger.specs.Memory.{Holds}
use Rattle.aiger.specs.Operations.{front}
use lib.Seq.{take_at}
use Rattle.roundtrip.proofs.Holding.{loaded-holds, one-circuit}
use Rattle.joined.specs.Joined.{JoinedInto}
use Rattle.load.specs.Preview.{counts_of, words_needed}
use Rattle.call_forms.specs.Table.{preview_row}
use Rattle.call_forms.specs.Forms.{Tested, UserJoined, UserPreviewed}
use Rattle.call_forms.proofs.Tests.{known_by, stranger-by}
use Rattle.replies.specs.Refusal.{refusal_text}
use Rattle.replies.specs.Reply.{Reply, Fronts, Leaves, refusal}
use Rattle.replies.specs.declared.Report.{Report}
use Rattle.replies.proofs.Putting.{fronts-taken, fronts-inside}
use Rattle.call_forms.specs.History as History
use Rattle.preview_command.specs.Texts.{preview_line, preview_reply, words_line}
use Rattle.panel_lines.specs.Grammar.{Command, parse}
use Rattle.panel_lines.specs.declared.Query.{Query}
use Rattle.panel_lines.specs.declared.Query.TheVariants.{Pin, Search, Fold, Write, Generate, SearchFrom}
use Rattle.panel_lines.specs.declared.View.{View}
use Rattle.panel_lines.specs.declared.View.TheVariants.{Replay, Widen, Waveform}
use Rattle.panel.specs.Answers.{load_words, LoadReported, Queried, preview_reply_to}
use Rattle.panel_files.specs.Files.{Viewed}
use Rattle.panel_join.specs.Joins.{NewJoined, FilesJoined, JoinReported}
use Rattle.panel_session.specs.Session.{Files, Action, file_words, query_call, view_call, action_of, request_action, call_reply, Turn}
use Rattle.panel_session.specs.Answered.{LineAlone, Answered}
use Rattle.panel_session.specs.declared.Response.{Response}
use Rattle.panel_session.proofs.Outputs.{Told, search-told, from_told, fold-told, write-told, widen-told, waveform-told, generate-told}

-- what a report says of the printed line and of the output, for an action
pub record Taken (room : ℕ) (action : Action) (s : History.State) (line out : List ℕ) (r : Report) (s' : History.State) (line' out' : List ℕ) : Type 0 where
  pub reply : Reply
  pub loaded : Bool
  pub turn : (request : List ℕ) (files : Files) → request_action room files (parse request) ≡ action → Turn room request files s reply loaded s'
  pub line-is : Fronts reply.line line r.line line'
  pub out-is : Fronts reply.out out r.out out'

-- nothing is printed from the output
untouched : {out out' : List ℕ} {n : ℕ} → n ≡ 0 → out' ≡ out → Fronts [] out n out'
untouched e f = record { long = e; contents = f }

-- a text that stands at the front of the output is printed
printed : {out zeros out' : List ℕ} {n l : ℕ} {P : List ℕ → Type 0} (t : Told out zeros out' l P) → n ≡ l
    → Fronts (take l (front t.text zeros)) out n out'
printed {out} {zeros} {out'} {n = n} {l = l} t e =
    let z : take l (front t.text zeros) ≡ t.text = take_at t.text (drop (length t.text) zeros) l (sym t.long) in
    subst (λ (x : List ℕ). Fronts x out n out') (sym z) (record { long = e ∙ t.long; contents = t.left })

-- an output of as many bytes
as_long : (out : List ℕ) → length out ≡ length {A = ℕ} (replicate (length out) 0)
as_long out = sym (length-replicate {A = ℕ} (length out) 0)

-- ---- a file that is previewed

preview-line : (a : Answer Circuit) → preview_line a ≡ load_words (a >>= λ c. gives (counts_of c))
preview-line (refused k) = refl
preview-line (gives c) = refl

known-preview : (user : ℕ) (file m : List ℕ) → length m ≡ 33032 → user ≤ 1
    → UserPreviewed (length m) file user (load 33032 file >>= λ c. gives (counts_of c)) (words_needed file)
known-preview user file m e h = known_by preview_row user h (ap (λ (n : ℕ). load n file >>= λ c. gives (counts_of c)) (sym e), refl)

-- ---- files that are joined

held-words : (f : List ℕ) {c : Circuit} → load 33032 f ≡ gives c → Holds (file_words c) c
unfolding file_words
held-words f l = loaded-holds (replicate 33032 0) f (ap (λ (n : ℕ). load n f) (length-replicate {A = ℕ} 33032 0) ∙ l)

module _ {first second first₀ second₀ : List ℕ} {c d : Circuit} (h : Holds first c) (k : Holds second d) (h₀ : Holds first₀ c) (k₀ : Holds second₀ d) where
  joined-moves : {m m' : List ℕ} {a : Answer (List ℕ)} → JoinedInto first second m a m' → JoinedInto first₀ second₀ m a m'
  joined-moves (JoinedInto.no_circuit f) = absurd (⊎_elim (λ n. n c h) (λ n. n d k) f)
  joined-moves (JoinedInto.refuses c' d' h' k' j) =
      JoinedInto.refuses c' d' (subst (Holds first₀) (sym (one-circuit h' h)) h₀) (subst (Holds second₀) (sym (one-circuit k' k)) k₀) j
  joined-moves (JoinedInto.stores c' d' h' k' j) =
      JoinedInto.stores c' d' (subst (Holds first₀) (sym (one-circuit h' h)) h₀) (subst (Holds second₀) (sym (one-circuit k' k)) k₀) j

  rejoined : {m m' pins pins' : List ℕ} {a : Answer (List ℕ)} → UserJoined first second m pins 0 a m' pins' → UserJoined first₀ second₀ m pins 0 a m' pins'
  rejoined (Tested.refuses e) = Tested.refuses e
  rejoined (Tested.passes e j) = Tested.passes e (joined-moves j.0, j.1)

module _ {m w p line out : List ℕ} {r : Report} {line' out' : List ℕ} where
  -- a call, by its step and by what is printed of its reply
  called : {call : History.Call} {reply : History.Returned} {s' : History.State}
      → History.Step (record { memory = m; work = w; pins = p }) call reply s'
      → Fronts (call_reply reply).line line r.line line'
      → Fronts (call_reply reply).out out r.out out'
      → Taken (length out) (Action.calls call) (record { memory = m; work = w; pins = p }) line out r s' line' out'
  called y f g = record { reply = _; loaded = _; turn = λ u i e. Turn.calls e y; line-is = f; out-is = g }

  -- ---- queries

  pub query-taken : (user : ℕ) (q : Query) {s' : History.State} → Queried q user (record { memory = m; work = w; pins = p }) out line r s' out' line'
      → Taken (length out) (Action.calls (query_call (length out) user q)) (record { memory = m; work = w; pins = p }) line out r s' line' out'
  query-taken user (Pin input value) x =
      called x.permitted.0 x.line-is (untouched x.out-is x.permitted.1)
  query-taken user (Search b k D) x = go x.permitted
    where
      go : {s' : History.State} → History.Step (record { memory = m; work = w; pins = p }) (History.Call.search user b k D out) (History.Returned.searched x.answer out') s'
          → Taken (length out) (Action.calls (query_call (length out) user (Search b k D))) (record { memory = m; work = w; pins = p }) line out r s' line' out'
      go (History.Step.searches y l) =
          let t = search-told p user (as_long out) y in
          called (History.Step.searches t.again l) x.line-is (printed t x.out-is)
  query-taken user (Fold b t) x = go x.permitted
    where
      go : {s' : History.State} → History.Step (record { memory = m; work = w; pins = p }) (History.Call.fold user b t out) (History.Returned.folded x.answer out') s'
          → Taken (length out) (Action.calls (query_call (length out) user (Fold b t))) (record { memory = m; work = w; pins = p }) line out r s' line' out'
      go (History.Step.folds y l) =
          let t = fold-told p user (as_long out) y in
          called (History.Step.folds t.again l) x.line-is (printed t x.out-is)
  query-taken user (Write form) x = go x.permitted
    where
      go : {s' : History.State} → History.Step (record { memory = m; work = w; pins = p }) (History.Call.write user form out) (History.Returned.written x.answer out') s'
          → Taken (length out) (Action.calls (query_call (length out) user (Write form))) (record { memory = m; work = w; pins = p }) line out r s' line' out'
      go (History.Step.writes y) =
          let t = write-told user form (as_long out) y in
          called (History.Step.writes t.again) x.line-is (printed t x.out-is)
  query-taken user (Generate seed i l g) x = go x.permitted
    where
      go : {s' : History.State} → History.Step (record { memory = m; work = w; pins = p }) (History.Call.generate user seed i l g out) (History.Returned.written x.answer out') s'
          → Taken (length out) (Action.calls (query_call (length out) user (Generate seed i l g))) (record { memory = m; work = w; pins = p }) line out r s' line' out'
      go (History.Step.generates y) =
          let t = generate-told user (as_long out) y in
          called (History.Step.generates t.again) x.line-is (printed t x.out-is)
  query-taken user (SearchFrom b t place D) x = go x.permitted
    where
      go : {s' : History.State}
          → History.Step (record { memory = m; work = w; pins = p }) (History.Call.search_from user b t place D out) (History.Returned.searched x.answer out') s'
          → Taken (length out) (Action.calls (query_call (length out) user (SearchFrom b t place D))) (record { memory = m; work = w; pins = p }) line out r s' line'
          out'
      go (History.Step.searches_from y l) =
          let z = from_told p user (as_long out) y in
          called (History.Step.searches_from z.again l) x.line-is (printed z x.out-is)

  -- ---- views

  pub view-taken : (user : ℕ) (v : View) (witness : List ℕ) → Viewed v user witness m p out line r out' line'
      → Taken (length out) (Action.calls (view_call (length out) user witness v)) (record { memory = m; work = w; pins = p }) line out r (record { memory = m; work = w; pins = p }) line' out'
  view-taken user Replay witness x =
      called (History.Step.replays x.permitted.0) x.line-is (untouched x.out-is x.permitted.1)
  view-taken user Widen witness x =
      let t = widen-told p user (as_long out) x.permitted in
      called (History.Step.widens t.again) x.line-is (printed t x.out-is)
  view-taken user (Waveform only) witness x =
      let t = waveform-told user (as_long out) x.permitted in
      called (History.Step.waveforms t.again) x.line-is (printed t x.out-is)

  -- ---- commands that name files of circuits

  pub load-taken : (user : ℕ) (file : List ℕ) {m' p' : List ℕ} → LoadReported user file m p line r m' p' line' → out' ≡ out
      → Taken (length out) (Action.calls (History.Call.load user file)) (record { memory = m; work = w; pins = p }) line out r (record { memory = m'; work = w; pins = p' }) line' out'
  load-taken user file x o =
      called (History.Step.loads x.permitted) x.line-is (untouched x.out-is o)

  pub preview-taken : (user : ℕ) (file : List ℕ) → length m ≡ 33032 → Leaves (preview_reply_to user file) line out r line' out'
      → Taken (length out) (Action.calls (History.Call.preview user file)) (record { memory = m; work = w; pins = p }) line out r (record { memory = m; work = w; pins = p }) line' out'
  unfolding preview_reply
  preview-taken user file l x =
      elim (dec_lt 1 user) [
        | yes h ↦
            let y : Leaves (refusal 18) line out r line' out' =
            subst (λ (b : Bool). Leaves (cond b (refusal 18) (preview_reply file)) line out r line' out') (lt-ltb 1 user h) x in
            called (History.Step.previews (stranger-by preview_row user h)) y.line-is y.out-is
        | no h ↦
            let y : Leaves (preview_reply file) line out r line' out' =
            subst (λ (b : Bool). Leaves (cond b (refusal 18) (preview_reply file)) line out r line' out') (le-ltb 1 user (omega arith)) x in
            called (History.Step.previews (known-preview user file m l (omega arith)))
            (subst (λ (t : List ℕ). Fronts t line r.line line') (preview-line (load 33032 file)) y.line-is) y.out-is
      ]

  pub join-taken : (user : ℕ) (old new first second : List ℕ) {m' p' : List ℕ} → JoinReported (λ a. FilesJoined first second m p user a m' p') line r line'
      → out' ≡ out
      → Taken (length out) (action_of (length out) user first second (Command.join old new)) (record { memory = m; work = w; pins = p }) line out r (record { memory = m'; work = w; pins = p' }) line'
      out'
  join-taken user old new first second x o = go x.answer x.permitted x.line-is
    where
      says : (n : ℕ) (z : Action) → z ≡ Action.prints (refusal_text n) → Fronts (refusal_text n) line r.line line'
          → Taken (length out) z (record { memory = m; work = w; pins = p }) line out r (record { memory = m; work = w; pins = p }) line' out'
      says n z q f =
          record {
            reply = record { line = refusal_text n; out = [] };
            loaded = false;
            turn = λ u g e. Turn.prints (e ∙ q);
            line-is = f;
            out-is = untouched x.out-is o;
          }

      go : (a : Answer (List ℕ)) {m' p' : List ℕ} → FilesJoined first second m p user a m' p' → Fronts (load_words a) line r.line line'
          → Taken (length out) (action_of (length out) user first second (Command.join old new)) (record { memory = m; work = w; pins = p }) line out r
          (record { memory = m'; work = w; pins = p' }) line' out'
      go a (FilesJoined.stranger h) f = says 18 _ (simp (ne_eqb user 0 (λ e. omega (arith, e, h)))) f
      go a (FilesJoined.refuses {n = n} u l) f = says n _ (rw (u, l)) f
      go a (FilesJoined.joins u l h (NewJoined.refuses {n = n} k)) f = says n _ (rw (u, l, k)) f
      go a (FilesJoined.joins {c = c} u l h (NewJoined.joins {d = d} k g j)) f =
          let q : action_of (length out) user first second (Command.join old new) ≡ Action.calls (History.Call.join 0 (file_words c) (file_words d)) = rw (u, l, k) in
          record {
            reply = _;
            loaded = _;
            turn = λ v i e. Turn.calls (e ∙ q) (History.Step.joins (rejoined h g (held-words first l) (held-words second k) j));
            line-is = f;
            out-is = untouched x.out-is o;
          }

  pub malformed-taken : (t : List ℕ) → Fronts t line r.line line' → r.out ≡ 0 → out' ≡ out → Taken (length out) (Action.prints t) (record { memory = m; work = w; pins = p }) line out r (record { memory = m; work = w; pins = p }) line' out'
  malformed-taken t f e o =
      record { reply = record { line = t; out = [] }; loaded = false; turn = λ u g q. Turn.prints q; line-is = f; out-is = untouched e o }

-- ---- a request

module _ {request first second : List ℕ} {s : History.State} {line out : List ℕ} {r : Report} {s' : History.State} {line' out' : List ℕ} {user : ℕ} {c : Command} where
  -- what is left for a request whose files were read
  pub answers : parse request ≡ some (user, c) → Taken (length out) (action_of (length out) user first second c) s line out r s' line' out' → (q : Response)
      → q.line ≡ line' → q.count ≡ r.line → q.out ≡ r.out → Answered request (Files.read first second) s out q s' out'
  answers e t q l n o =
      record {
        reply = t.reply;
        loaded = t.loaded;
        turn = t.turn request (Files.read first second) (ap (request_action (length out) (Files.read first second)) e);
        line-is = record {
          inside = rw (l, n) (fronts-inside t.line-is);
          contents = rw (l, n) (fronts-taken t.line-is);
        };
        out-is = rw o t.out-is;
      }

-- a line alone
pub answered-alone : {request : List ℕ} {files : Files} {s : History.State} (out : List ℕ) {t : List ℕ} {r : Response}
    → request_action (length out) files (parse request) ≡ Action.prints t → LineAlone r t → Answered request files s out r s out
answered-alone out {t} e y =
    record { reply = record { line = t; out = [] }; loaded = false; turn = Turn.prints e; line-is = y.line-is; out-is = untouched y.out-is refl }

pub alone-fronts : {t line line' : List ℕ} {n : ℕ} (r : Response) → Fronts t line n line' → r.line ≡ line' → r.count ≡ n → r.out ≡ 0 → LineAlone r t
alone-fronts r f l n o = record { line-is = record { inside = rw (l, n) (fronts-inside f); contents = rw (l, n) (fronts-taken f) }; out-is = o }

-- what is to be printed lies in the response's bytes and in the output
pub answered-inside : {request : List ℕ} {files : Files} {s : History.State} {out : List ℕ} {r : Response} {s' : History.State} {out' : List ℕ}
    → Answered request files s out r s' out' → (r.count ≤ length r.line) × (r.out ≤ length out')
answered-inside x = (x.line-is.inside, fronts-inside x.out-is)
