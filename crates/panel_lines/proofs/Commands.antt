-- The commands of a request, by their verbs. Assumes nothing.
use mathlib.Core.Path.{◌≡◌, refl, sym, ap, ◌∙◌, subst}
use mathlib.Core.Bool.{Bool, true, false, cond}
use mathlib.Core.List.{List}
use mathlib.Core.Option.{Option, none, some}
use Prim.Native.Nat.{ℕ, ◌-◌, ◌≤◌, ◌<◌}
use native.Mathlib.Omega.{arith}
use borrow.Author.Tests.{le-leb, lt-leb}
use lib.ListN.{length, take, drop, drop_of_length-le}
use lib.Seq.{drop-cons}
use Rattle.std.specs.Prelude.{Some, None}
use Rattle.aiger.specs.Lists.{same}
use Rattle.aiger.specs.Text.{bytes, when, ◌>>=◌, ◌>>◌}
use Rattle.arguments.specs.Arguments.{number_of}
use Rattle.panel_lines.specs.Grammar.{
  Command,
  split,
  word,
  number,
  seed,
  ended,
  two_numbers,
  place_number,
  one_name,
  pin_of,
  search_of,
  fold_of,
  form_of,
  write_of,
  load_of,
  preview_of,
  join_of,
  view_of,
  flag_of,
  waveform_of,
  generate_of,
  search_from_of,
  verb_of,
  command_of,
  parse,
}
use Rattle.panel_lines.specs.Reading.{Inside, bytes_of, Ends, WordAt, NumberAt, SeedAt, NameAt, task_of, PartsInside, TaskIs, RequestIs}
use Rattle.panel_lines.specs.declared.Part.{Part}
use Rattle.panel_lines.specs.declared.Verb.{Verb}
use Rattle.panel_lines.specs.declared.View.{View}
use Rattle.panel_lines.specs.declared.View.TheVariants.{Replay, Widen, Waveform}
use Rattle.panel_lines.specs.declared.Query.TheVariants.{Pin, Search, Fold, Write, Generate, SearchFrom}
use Rattle.panel_lines.specs.declared.Task.{Task}
use Rattle.panel_lines.specs.declared.Task.TheVariants.{Ask, Load, Preview, Join, Witness}
use Rattle.panel_lines.specs.declared.Request.{Request}

-- the form that a word is
pub form-binary : (w : List ℕ) → true ≡ same w (bytes "binary") → some 1 ≡ form_of w
unfolding form_of
form-binary w e = rw (← e)

pub form-number : (w : List ℕ) → false ≡ same w (bytes "binary") → {n : Option ℕ} → n ≡ number_of w → n ≡ form_of w
unfolding form_of
form-number w e f = rw (← e) f

module _ (s : List ℕ) (at : ℕ) where
  pub pin-none : none ≡ two_numbers (drop at s) → TaskIs s (pin_of (drop at s)) None
  unfolding pin_of
  pin-none e = record { meaning = rw (← e); parts = tt }

  pub pin-all : (a b : ℕ) → some (a, b) ≡ two_numbers (drop at s) → TaskIs s (pin_of (drop at s)) (Some (Ask (Pin a b)))
  unfolding pin_of
  pin-all a b e = record { meaning = rw (← e); parts = tt }

  pub fold-none : none ≡ two_numbers (drop at s) → TaskIs s (fold_of (drop at s)) None
  unfolding fold_of
  fold-none e = record { meaning = rw (← e); parts = tt }

  pub fold-all : (a b : ℕ) → some (a, b) ≡ two_numbers (drop at s) → TaskIs s (fold_of (drop at s)) (Some (Ask (Fold a b)))
  unfolding fold_of
  fold-all a b e = record { meaning = rw (← e); parts = tt }

  pub search-none : number (drop at s) ≡ none → TaskIs s (search_of (drop at s)) None
  unfolding search_of
  search-none e = record { meaning = rw e; parts = tt }

  module _ {b next : ℕ} (x : NumberAt s at b next) where
    pub search-half : none ≡ two_numbers (drop next s) → TaskIs s (search_of (drop at s)) None
    unfolding search_of
    search-half e = record { meaning = rw (x.number_is, ← e); parts = tt }

    pub search-all : (k d : ℕ) → some (k, d) ≡ two_numbers (drop next s) → TaskIs s (search_of (drop at s)) (Some (Ask (Search b k d)))
    unfolding search_of
    search-all k d e = record { meaning = rw (x.number_is, ← e); parts = tt }

  pub write-text : length s ≤ at → TaskIs s (write_of (drop at s)) (Some (Ask (Write 0)))
  unfolding write_of
  write-text h = record { meaning = rw (drop_of_length-le s {i = at} h); parts = tt }

  -- where something follows
  module _ (h : at < length s) where
    write_word : write_of (drop at s) ≡ (one_name (drop at s) >>= λ w. form_of w >>= λ n. some (Command.query (Write n)))
    unfolding write_of
    write_word = rw (drop-cons s at 0 h)

    pub write-none : one_name (drop at s) ≡ none → TaskIs s (write_of (drop at s)) None
    write-none e = record { meaning = sym (write_word ∙ rw e); parts = tt }

    module _ {p : Part} (w : NameAt s at p) where
      pub write-wrong : none ≡ form_of (bytes_of s p) → TaskIs s (write_of (drop at s)) None
      write-wrong e = record { meaning = sym (write_word ∙ rw (w.name-is, ← e)); parts = tt }

      pub write-form : (n : ℕ) → some n ≡ form_of (bytes_of s p) → TaskIs s (write_of (drop at s)) (Some (Ask (Write n)))
      write-form n e = record { meaning = sym (write_word ∙ rw (w.name-is, ← e)); parts = tt }

  pub load-none : one_name (drop at s) ≡ none → TaskIs s (load_of (drop at s)) None
  unfolding load_of
  load-none e = record { meaning = rw e; parts = tt }

  pub load-all : {p : Part} → NameAt s at p → TaskIs s (load_of (drop at s)) (Some (Load p))
  unfolding load_of
  load-all n = record { meaning = rw n.name-is; parts = n.inside }

  pub preview-none : one_name (drop at s) ≡ none → TaskIs s (preview_of (drop at s)) None
  unfolding preview_of
  preview-none e = record { meaning = rw e; parts = tt }

  pub preview-all : {p : Part} → NameAt s at p → TaskIs s (preview_of (drop at s)) (Some (Preview p))
  unfolding preview_of
  preview-all n = record { meaning = rw n.name-is; parts = n.inside }

  pub join-none : word (drop at s) ≡ none → TaskIs s (join_of (drop at s)) None
  unfolding join_of
  join-none e = record { meaning = rw e; parts = tt }

  module _ {p : Part} (w : WordAt s at p) where
    pub join-half : one_name (drop p.to s) ≡ none → TaskIs s (join_of (drop at s)) None
    unfolding join_of
    join-half e = record { meaning = rw (w.word-is, e); parts = tt }

    pub join-all : {q : Part} → NameAt s p.to q → TaskIs s (join_of (drop at s)) (Some (Join p q))
    unfolding join_of
    join-all n = record { meaning = rw (w.word-is, n.name-is); parts = (w.inside, n.inside) }

    pub waveform-half : none ≡ flag_of (bytes "inputs") (drop p.to s) → TaskIs s (waveform_of (drop at s)) None
    unfolding waveform_of
    waveform-half e = record { meaning = rw (w.word-is, ← e); parts = tt }

    pub waveform-all : (b : Bool) → some b ≡ flag_of (bytes "inputs") (drop p.to s)
        → TaskIs s (waveform_of (drop at s)) (Some (Witness (Waveform b) p))
    unfolding waveform_of
    waveform-all b e = record { meaning = rw (w.word-is, ← e); parts = w.inside }

  pub waveform-none : word (drop at s) ≡ none → TaskIs s (waveform_of (drop at s)) None
  unfolding waveform_of
  waveform-none e = record { meaning = rw e; parts = tt }

  pub generate-none : seed (drop at s) ≡ none → TaskIs s (generate_of (drop at s)) None
  unfolding generate_of
  generate-none e = record { meaning = rw e; parts = tt }

  module _ {n counts : ℕ} (x : SeedAt s at n counts) where
    pub generate-seed : number (drop counts s) ≡ none → TaskIs s (generate_of (drop at s)) None
    unfolding generate_of
    generate-seed e = record { meaning = rw (x.seed-is, e); parts = tt }

    module _ {i next : ℕ} (y : NumberAt s counts i next) where
      pub generate-half : none ≡ two_numbers (drop next s) → TaskIs s (generate_of (drop at s)) None
      unfolding generate_of
      generate-half e = record { meaning = rw (x.seed-is, y.number_is, ← e); parts = tt }

      pub generate-all : (l a : ℕ) → some (l, a) ≡ two_numbers (drop next s) → TaskIs s (generate_of (drop at s)) (Some (Ask (Generate n i l a)))
      unfolding generate_of
      generate-all l a e = record { meaning = rw (x.seed-is, y.number_is, ← e); parts = tt }

  pub from-none : number (drop at s) ≡ none → TaskIs s (search_from_of (drop at s)) None
  unfolding search_from_of
  from-none e = record { meaning = rw e; parts = tt }

  module _ {b frame : ℕ} (x : NumberAt s at b frame) where
    pub from-line : number (drop frame s) ≡ none → TaskIs s (search_from_of (drop at s)) None
    unfolding search_from_of
    from-line e = record { meaning = rw (x.number_is, e); parts = tt }

    module _ {t next : ℕ} (y : NumberAt s frame t next) where
      pub from-half : none ≡ place_number (drop next s) → TaskIs s (search_from_of (drop at s)) None
      unfolding search_from_of
      from-half e = record { meaning = rw (x.number_is, y.number_is, ← e); parts = tt }

      pub from_all : (p d : ℕ) → some (p, d) ≡ place_number (drop next s) → TaskIs s (search_from_of (drop at s)) (Some (Ask (SearchFrom b t p d)))
      unfolding search_from_of
      from_all p d e = record { meaning = rw (x.number_is, y.number_is, ← e); parts = tt }

  module _ (v : View) where
    pub view-none : one_name (drop at s) ≡ none → TaskIs s (view_of v (drop at s)) None
    unfolding view_of
    view-none e = record { meaning = rw e; parts = tt }

    pub view-all : {p : Part} → NameAt s at p → TaskIs s (view_of v (drop at s)) (Some (Witness v p))
    unfolding view_of
    view-all n = record { meaning = rw n.name-is; parts = n.inside }

  -- a word that may be given
  module _ (w : List ℕ) where
    pub flag-unset : length s ≤ at → some false ≡ flag_of w (drop at s)
    unfolding flag_of
    flag-unset h = rw (drop_of_length-le s {i = at} h)

    -- where something follows
    module _ (h : at < length s) where
      flag_word : flag_of w (drop at s) ≡ (one_name (drop at s) >>= λ v. when (same v w) >> some true)
      unfolding flag_of
      flag_word = rw (drop-cons s at 0 h)

      pub flag-none : one_name (drop at s) ≡ none → none ≡ flag_of w (drop at s)
      flag-none e = sym (flag_word ∙ rw e)

      module _ {p : Part} (n : NameAt s at p) where
        pub flag-given : true ≡ same (bytes_of s p) w → some true ≡ flag_of w (drop at s)
        flag-given e = sym (flag_word ∙ rw (n.name-is, ← e))

        pub flag-other : false ≡ same (bytes_of s p) w → none ≡ flag_of w (drop at s)
        flag-other e = sym (flag_word ∙ rw (n.name-is, ← e))

-- the table of verbs with one verb more before it
pub verb-more : {A : Type 0} (b : Bool) (v : A) {r x y : A} → r ≡ cond b v x → x ≡ y → r ≡ cond b v y
verb-more b v e f = e ∙ ap (cond b v) f

-- ---- a request

-- the first word of a request
first_word : (s : List ℕ) {end : ℕ} → Ends s 0 end → split s ≡ (take end s, drop end s)
first_word s {end} w = let z : end - 0 ≡ end = omega arith in rw z at w.word-is

module _ (s : List ℕ) where
  pub too_long : 4096 < length s → RequestIs s (parse s) None
  unfolding parse
  too_long h = record { meaning = rw (lt-leb (length s) 4096 h); parts = tt }

  module _ (short : length s ≤ 4096) {end : ℕ} (w : Ends s 0 end) where
    pub no-user : none ≡ number_of (take end s) → RequestIs s (parse s) None
    unfolding parse
    no-user n = record { meaning = rw (le-leb (length s) 4096 short, first_word s w, ← n); parts = tt }

    module _ {user : ℕ} (u : some user ≡ number_of (take end s)) where
      pub no_word_left : word (drop end s) ≡ none → RequestIs s (parse s) None
      unfolding parse
      no_word_left n = record { meaning = rw (le-leb (length s) 4096 short, first_word s w, ← u, n); parts = tt }

      module _ {p : Part} (a : WordAt s end p) where
        pub no-verb : none ≡ verb_of (bytes_of s p) → RequestIs s (parse s) None
        unfolding parse
        no-verb v =
            record { meaning = rw (le-leb (length s) 4096 short, first_word s w, ← u, a.word-is, ← v); parts = tt }

        module _ {v : Verb} (e : some v ≡ verb_of (bytes_of s p)) where
          pub no-task : TaskIs s (command_of v (drop p.to s)) None → RequestIs s (parse s) None
          unfolding parse
          no-task t =
              record { meaning = rw (le-leb (length s) 4096 short, first_word s w, ← u, a.word-is, ← e, ← t.meaning); parts = tt }

          pub whole : {t : Task} → TaskIs s (command_of v (drop p.to s)) (Some t)
              → RequestIs s (parse s) (Some (record { user = user; task = t }))
          unfolding parse
          whole t =
              record {
                meaning = rw (le-leb (length s) 4096 short, first_word s w, ← u, a.word-is, ← e, ← t.meaning);
                parts = t.parts;
              }
