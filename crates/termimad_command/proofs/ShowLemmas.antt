-- Texts that are shown one after the other.
use Rattle.std.proofs.Common.{◌≡◌, ◌+◌, ◌<◌, ℕ, Bool, true, false, List, [], ◌∷◌, Option, Result, Ok, Err, refl, sym, subst, inl, inr, drop, get_or, length, map}
use Rattle.std.proofs.lemmas.List.{drop_more}
use Rattle.std.specs.Prelude.{IsErrAnd, MatchBool, MatchResult}
use Rattle.mad_term.specs.Trace.{Trace}
use Rattle.termimad_given.specs.Given.{Held}
use Rattle.termimad_options.specs.Calls.{Reading}
use Rattle.termimad_options.specs.Names.{reading_of_file}
use Rattle.termimad_command.specs.Texts.{AreShown, FailsAmong, IsReadAs, IsShown, IsShownWhole, IsUnread, IsUnshown, IsUnshownWhole, comes}
use Rattle.termimad_command.specs.Written.{FailsInStream, IsStreamed, Streams, WritesBytes, streams}
use Rattle.termimad_command.specs.declared.refusals.Refusal.{Refusal}
use Rattle.termimad_command.specs.declared.writing.Look.{Look}

-- the exit of a call that fails by this refusal
pub err_exit : {T E : Type 0} (r : Result T E) (e : E) (P : T → Type 0) (Q : E → Type 0) → IsErrAnd r (λ x. x ≡ e) → Q e → MatchResult r P Q
err_exit (Ok x) e P Q h q = absurd h
err_exit (Err x) e P Q h q = subst Q (sym h) q

-- ---- one text

-- bytes that are read are written, or that is refused
pub read_and_written : (holds : Held) (look : Look) (said : Option Reading) (name bytes slice : List ℕ) (reading : Reading) (before after old new : Trace)
    (r : Result (Unit {0}) Refusal) → IsReadAs holds name before bytes after → slice ≡ bytes → reading ≡ reading_of_file said name
    → WritesBytes look reading slice old r new
    → MatchResult r (λ _. IsShownWhole holds look said name (streams before old) (streams after new))
    (λ refusal. IsUnshownWhole holds look said name refusal (streams before old) (streams after new))
read_and_written holds look said name bytes slice reading before after old new (Ok x) read s g w =
    let on_bytes = subst (λ (b : List ℕ). WritesBytes look reading b old (Ok x) new) s w in
    record { bytes = bytes; read = read; wrote = subst (λ (reading : Reading). WritesBytes look reading bytes old (Ok x) new) g on_bytes }
read_and_written holds look said name bytes slice reading before after old new (Err refusal) read s g w =
    let on_bytes = subst (λ (b : List ℕ). WritesBytes look reading b old (Err refusal) new) s w in
    inr (record { bytes = bytes; read = read; refused = subst (λ (reading : Reading). WritesBytes look reading bytes old (Err refusal) new) g on_bytes })

-- a text that isn't read isn't shown
pub unread_unshown : (holds : Held) (look : Look) (said : Option Reading) (name : List ℕ) (refusal : Refusal) (before after out : Trace)
    → IsUnread name before refusal after → IsUnshownWhole holds look said name refusal (streams before out) (streams after out)
unread_unshown holds look said name refusal before after out h = inl (h, refl)

-- the input is written as it comes, or not all of it
pub shown_as_it_comes : (holds : Held) (look : Look) (said : Option Reading) (name : List ℕ) (old new : Streams) (r : Result (Unit {0}) Refusal) → comes look name ≡ true
    → MatchResult r (λ _. IsStreamed look old new) (λ refusal. FailsInStream look name refusal old new)
    → MatchResult r (λ _. IsShown holds look said name old new) (λ refusal. IsUnshown holds look said name refusal old new)
shown_as_it_comes holds look said name old new r e h =
    subst (λ (b : Bool). MatchResult r (λ _. MatchBool b (IsStreamed look old new) (IsShownWhole holds look said name old new))
    (λ refusal. MatchBool b (FailsInStream look name refusal old new) (IsUnshownWhole holds look said name refusal old new))) (sym e) h

-- a text is shown whole, or not
pub shown_whole : (holds : Held) (look : Look) (said : Option Reading) (name : List ℕ) (old new : Streams) (r : Result (Unit {0}) Refusal) → comes look name ≡ false
    → MatchResult r (λ _. IsShownWhole holds look said name old new) (λ refusal. IsUnshownWhole holds look said name refusal old new)
    → MatchResult r (λ _. IsShown holds look said name old new) (λ refusal. IsUnshown holds look said name refusal old new)
shown_whole holds look said name old new r e h =
    subst (λ (b : Bool). MatchResult r (λ _. MatchBool b (IsStreamed look old new) (IsShownWhole holds look said name old new))
    (λ refusal. MatchBool b (FailsInStream look name refusal old new) (IsUnshownWhole holds look said name refusal old new))) (sym e) h

-- ---- all of them

-- What is done of the texts that are left, from now on, is done of all of them, from the start on.
pub record AreToCome (holds : Held) (look : Look) (said : Option Reading) (all : List (List ℕ)) (old : Streams) (left : List (List ℕ)) (now : Streams) : Type 0 where
  pub shown : (new : Streams) → AreShown holds look said left now new → AreShown holds look said all old new
  pub fails : (refusal : Refusal) (new : Streams) → FailsAmong holds look said left refusal now new → FailsAmong holds look said all refusal old new

-- before the first, all are left
pub all_to_come : (holds : Held) (look : Look) (said : Option Reading) (all : List (List ℕ)) (old : Streams) → AreToCome holds look said all old all old
all_to_come holds look said all old = record { shown = λ new h. h; fails = λ refusal new h. h }

-- one more is shown
pub one_shown : (holds : Held) (look : Look) (said : Option Reading) (all : List (List ℕ)) (old : Streams) (name : List ℕ) (left : List (List ℕ)) (now next : Streams)
    → IsShown holds look said name now next → AreToCome holds look said all old (name ∷ left) now → AreToCome holds look said all old left next
one_shown holds look said all old name left now next one h = record {
  shown = λ new more. h.shown new (next, one, more);
  fails = λ refusal new more. h.fails refusal new (inr (next, one, more));
}

-- the next one isn't shown
pub one_unshown : (holds : Held) (look : Look) (said : Option Reading) (all : List (List ℕ)) (old : Streams) (name : List ℕ) (left : List (List ℕ)) (now next : Streams)
    (refusal : Refusal) → IsUnshown holds look said name refusal now next → AreToCome holds look said all old (name ∷ left) now
    → FailsAmong holds look said all refusal old next
one_unshown holds look said all old name left now next refusal failed h = h.fails refusal next (inl failed)

-- the next one of a list is shown
pub next_shown : {X : Type 0} (text : X → List ℕ) (holds : Held) (look : Look) (said : Option Reading) (all : List (List ℕ)) (old : Streams) (names : List X) (at : ℕ) (d : X)
    (now next : Streams) → at < length names → IsShown holds look said (text (get_or names at d)) now next
    → AreToCome holds look said all old (map text (drop at names)) now → AreToCome holds look said all old (map text (drop (at + 1) names)) next
next_shown {X} text holds look said all old names at d now next l one h =
    one_shown holds look said all old (text (get_or names at d)) (map text (drop (at + 1) names)) now next one
    (subst (λ (left : List X). AreToCome holds look said all old (map text left) now) (drop_more names at d l) h)

-- the next one of a list isn't
pub next_unshown : {X : Type 0} (text : X → List ℕ) (holds : Held) (look : Look) (said : Option Reading) (all : List (List ℕ)) (old : Streams) (names : List X) (at : ℕ) (d : X)
    (now next : Streams) (refusal : Refusal) → at < length names → IsUnshown holds look said (text (get_or names at d)) refusal now next
    → AreToCome holds look said all old (map text (drop at names)) now → FailsAmong holds look said all refusal old next
next_unshown {X} text holds look said all old names at d now next refusal l one h =
    one_unshown holds look said all old (text (get_or names at d)) (map text (drop (at + 1) names)) now next refusal one
    (subst (λ (left : List X). AreToCome holds look said all old (map text left) now) (drop_more names at d l) h)

-- none is left
pub none_left : (holds : Held) (look : Look) (said : Option Reading) (all left : List (List ℕ)) (old now : Streams) → left ≡ []
    → AreToCome holds look said all old left now → AreShown holds look said all old now
none_left holds look said all left old now e h = h.shown now (subst (λ (left : List (List ℕ)). AreShown holds look said left now now) (sym e) refl)
