-- What stays true of a device that sends only what changes.
use Rattle.std.proofs.Common.{◌≡◌, ℕ, Bool, true, false, cond, List, [], ◌++◌, take, drop, Option, Some, None, Result, Ok, Err, refl, ap, sym, ◌∙◌, subst, append_assoc}
use Rattle.std.specs.Prelude.{IfSome, MatchBool, MatchOption, option_map}
use Rattle.std.proofs.lemmas.List.{append-nil, take-append-drop}
use Rattle.mad_term.specs.Trace.{Trace, after, failed, flushed, Flushes}
use Rattle.mad_screen.specs.Grid.{Grid, empty_grid, has_none}
use Rattle.mad_screen.specs.Terminal.{after_bytes}
use Rattle.mad_screen.proofs.ReadingBack.{read_in_turn}
use Rattle.mad_frames.specs.Changes.{SameSize}
use Rattle.mad_frames.specs.Mending.{mended}
use Rattle.mad_frames.specs.Scrolling.{Bring, BringTo}
use Rattle.mad_frames.specs.SparingLaws.{IsShown}
use Rattle.mad_frames.specs.Sparing.{Spared, Follows, IsFlushed, IsSent, IsSparing, LeadsOn, behind_question, goes_on, known_screen, next_screen, question_length, read_anew}
use Rattle.mad_frames.proofs.LooksLemmas.{both_true}
use Rattle.mad_frames.proofs.ScrollLemmas.{brings_on}
use Rattle.mad_frames.proofs.SizeLemmas.{read_size}

-- ---- options

none_is_some : {X A : Type 0} {x : X} → None ≡ Some x → A
none_is_some h = absurd (clash h)
  where
    clash : {X : Type 0} {x : X} → None ≡ Some x → ⊥
    clash e = cc

inside : {X : Type 0} {x y : X} → Some x ≡ Some y → x ≡ y
inside e = cc

some_by : {X : Type 0} (o : Option X) (P : X → Type 0) → ((x : X) → o ≡ Some x → P x) → IfSome o P
some_by None P f = tt
some_by (Some x) P f = f x refl

some_at : {X : Type 0} (o : Option X) (x : X) (P : X → Type 0) → o ≡ Some x → IfSome o P → P x
some_at None x P e h = none_is_some e
some_at (Some y) x P e h = subst P (inside e) h

match_at : {X : Type 0} (o : Option X) (x : X) (A : Type 0) (P : X → Type 0) → o ≡ Some x → MatchOption o A P → P x
match_at None x A P e h = none_is_some e
match_at (Some y) x A P e h = subst P (inside e) h

mapped_at : (o : Option (List ℕ)) (front taken : List ℕ) → option_map (λ b. b ++ front) o ≡ Some taken → (b : List ℕ) × (o ≡ Some b) × (b ++ front ≡ taken)
mapped_at None front taken e = none_is_some e
mapped_at (Some b) front taken e = (b, refl, inside e)

not_none : (b : Bool) (o : Option Grid) (g : Grid) → cond b None o ≡ Some g → o ≡ Some g
not_none true o g e = none_is_some e
not_none false o g e = e

-- ---- where the device below took nothing

-- what was true is so of the same screen
keeps : (old new : Spared) → new.below.bytes ≡ old.below.bytes → known_screen new ≡ known_screen old → ((taken : List ℕ) (g : Grid) → Follows old taken g → Follows new taken g) → IsSparing old → IsSparing new
keeps old new bytes screen f h =
    some_by new.below.bytes (λ taken. IfSome (known_screen new) (Follows new taken)) (λ taken e. some_by (known_screen new) (Follows new taken) (λ g k.
    f taken g (some_at (known_screen old) g (Follows old taken) (sym screen ∙ k) (some_at old.below.bytes taken (λ t. IfSome (known_screen old) (Follows old t)) (sym bytes ∙ e) h))))

-- counts, and the size that is told, say nothing of it
pub same_keeps : (old new : Spared) → new.told ≡ old.told → new.drawn ≡ old.drawn → new.unsent ≡ old.unsent → new.below.bytes ≡ old.below.bytes → known_screen new ≡ known_screen old → IsSparing old → IsSparing new
same_keeps old new told drawn unsent bytes screen =
    keeps old new bytes screen (λ taken g f. record {
      before = f.before;
      since = f.since;
      put = told ∙ f.put ∙ ap (λ l. f.before ++ (f.since ++ l)) (sym drawn);
      read = f.read;
      earlier = f.earlier;
      sent = f.sent;
      took = ap (λ l. taken ++ l) unsent ∙ f.took;
      shows = f.shows;
    })

-- a text is put
pub put_keeps : (old new : Spared) (text : List ℕ) → new.told ≡ old.told ++ text → new.drawn ≡ old.drawn ++ text → new.unsent ≡ old.unsent → new.below.bytes ≡ old.below.bytes → known_screen new ≡ known_screen old → IsSparing old → IsSparing new
put_keeps old new text told drawn unsent bytes screen =
    keeps old new bytes screen (λ taken g f. record {
      before = f.before;
      since = f.since;
      put =
          told ∙ ap (λ l. l ++ text) f.put ∙ append_assoc f.before (f.since ++ old.drawn) text ∙ ap (λ l. f.before ++ l) (append_assoc f.since old.drawn text)
          ∙ ap (λ l. f.before ++ (f.since ++ l)) (sym drawn);
      read = f.read;
      earlier = f.earlier;
      sent = f.sent;
      took = ap (λ l. taken ++ l) unsent ∙ f.took;
      shows = f.shows;
    })

-- of an unknown screen nothing is said
pub unknown_is : (s : Spared) → s.known ≡ false → IsSparing s
unknown_is s e =
    some_by s.below.bytes (λ taken. IfSome (known_screen s) (Follows s taken)) (λ taken k. subst (λ (b : Bool). IfSome (cond b (Some s.screen) None) (Follows s taken)) (sym e) tt)

-- ---- where it took a front of what is unsent

pub sent_keeps : (old new : Spared) (front : List ℕ) → new.below.bytes ≡ (after old.below front).bytes → old.unsent ≡ front ++ new.unsent → new.told ≡ old.told → new.drawn ≡ old.drawn → known_screen new ≡ known_screen old → IsSparing old → IsSparing new
unfolding after
sent_keeps old new front bytes unsent told drawn screen h =
    some_by new.below.bytes (λ taken. IfSome (known_screen new) (Follows new taken)) (λ taken e. some_by (known_screen new) (Follows new taken) (λ g k.
    let had = mapped_at old.below.bytes front taken (sym bytes ∙ e) in
    let f : Follows old had.0 g = some_at (known_screen old) g (Follows old had.0) (sym screen ∙ k) (some_at old.below.bytes had.0 (λ t. IfSome (known_screen old) (Follows old t)) had.1 h) in
    let follows : Follows new taken g = record {
      before = f.before;
      since = f.since;
      put = told ∙ f.put ∙ ap (λ l. f.before ++ (f.since ++ l)) (sym drawn);
      read = f.read;
      earlier = f.earlier;
      sent = f.sent;
      took = ap (λ l. l ++ new.unsent) (sym had.2) ∙ append_assoc had.0 front new.unsent ∙ ap (λ l. had.0 ++ l) (sym unsent) ∙ f.took;
      shows = f.shows;
    } in
    follows))

-- a fault, or a flush, takes nothing away
pub failed_bytes : (t : Trace) → (failed t).bytes ≡ t.bytes
unfolding failed
failed_bytes t = refl

pub flushed_bytes : (t : Trace) → (flushed t).bytes ≡ t.bytes
unfolding flushed
flushed_bytes t = refl

-- ---- where a message is to be sent

went_on : (old new : Spared) (bytes taken : List ℕ) (next : Grid) → new.told ≡ old.told → new.drawn ≡ [] → new.unsent ≡ old.unsent ++ bytes → after_bytes old.screen old.drawn ≡ Some next → BringTo (mended old.screen) (mended next) bytes → Follows old taken old.screen → Follows new taken next
went_on old new bytes taken next told drawn unsent read brings f =
    let same : SameSize old.screen next = read_size old.screen next old.drawn read in
    let again : after_bytes (empty_grid old.screen.width old.screen.height) (f.since ++ old.drawn) ≡ Some next = read_in_turn (empty_grid old.screen.width old.screen.height) old.screen next f.since old.drawn f.read read in
    let sized : empty_grid next.width next.height ≡ empty_grid old.screen.width old.screen.height = ap (λ w. empty_grid w next.height) (sym same.width) ∙ ap (empty_grid old.screen.width) (sym same.height) in
    record {
      before = f.before;
      since = f.since ++ old.drawn;
      put = told ∙ f.put ∙ ap (λ l. f.before ++ l) (sym (ap (λ l. (f.since ++ old.drawn) ++ l) drawn ∙ append-nil (f.since ++ old.drawn)));
      read = ap (λ (g : Grid). after_bytes g (f.since ++ old.drawn)) sized ∙ again;
      earlier = f.earlier;
      sent = f.sent ++ bytes;
      took = ap (λ l. taken ++ l) unsent ∙ sym (append_assoc taken old.unsent bytes) ∙ ap (λ l. l ++ bytes) f.took ∙ append_assoc f.earlier f.sent bytes;
      shows = brings_on (mended old.screen) (mended next) f.sent bytes (record { width = same.width; height = same.height }) f.shows brings;
    }

began_anew : (old new : Spared) (done bytes taken front rest changes : List ℕ) (next : Grid) → old.told ≡ done ++ old.drawn → front ++ rest ≡ old.drawn → new.told ≡ old.told → new.drawn ≡ [] → new.unsent ≡ old.unsent ++ bytes → after_bytes (empty_grid old.columns old.rows) rest ≡ Some next → bytes ≡ front ++ changes → Bring (mended next) changes → Follows new taken next
began_anew old new done bytes taken front rest changes next all split told drawn unsent read is brings =
    let same : SameSize (empty_grid old.columns old.rows) next = read_size (empty_grid old.columns old.rows) next rest read in
    let sized : empty_grid next.width next.height ≡ empty_grid old.columns old.rows = ap (λ w. empty_grid w next.height) (sym same.width) ∙ ap (empty_grid old.columns) (sym same.height) in
    record {
      before = done ++ front;
      since = rest;
      put =
          told ∙ all ∙ ap (λ l. done ++ l) (sym split) ∙ sym (append_assoc done front rest)
          ∙ ap (λ l. (done ++ front) ++ l) (sym (ap (λ l. rest ++ l) drawn ∙ append-nil rest));
      read = ap (λ (g : Grid). after_bytes g rest) sized ∙ read;
      earlier = (taken ++ old.unsent) ++ front;
      sent = changes;
      took =
          ap (λ l. taken ++ l) (unsent ∙ ap (λ l. old.unsent ++ l) is) ∙ sym (append_assoc taken old.unsent (front ++ changes)) ∙ sym (append_assoc (taken ++ old.unsent) front changes);
      shows = brings;
    }

message_follows : (old new : Spared) (done bytes taken : List ℕ) (next : Grid) → old.told ≡ done ++ old.drawn → new.told ≡ old.told → new.drawn ≡ [] → new.unsent ≡ old.unsent ++ bytes → IfSome (known_screen old) (Follows old taken) → (b : Bool) → goes_on old ≡ b → cond b (after_bytes old.screen old.drawn) (read_anew old.columns old.rows (behind_question old)) ≡ Some next → MatchBool b (BringTo (mended old.screen) (mended next) bytes) ((changes : List ℕ) × (bytes ≡ take (question_length old.drawn) old.drawn ++ changes) × Bring (mended next) changes) → Follows new taken next
message_follows old new done bytes taken next all told drawn unsent h true way read leads =
    let known : old.known ≡ true = (both_true old.known _ way).0 in
    let screen : known_screen old ≡ Some old.screen = ap (λ b. cond b (Some old.screen) None) known in
    went_on old new bytes taken next told drawn unsent read leads (some_at (known_screen old) old.screen (Follows old taken) screen h)
message_follows old new done bytes taken next all told drawn unsent h false way read leads =
    let n = question_length old.drawn in
    began_anew old new done bytes taken (take n old.drawn) (drop n old.drawn) leads.0 next all (take-append-drop n old.drawn) told drawn unsent (not_none (has_none (drop n old.drawn)) _ next read) leads.1 leads.2

-- a message is to be sent
pub message_keeps : (old new : Spared) (done bytes : List ℕ) → old.told ≡ done ++ old.drawn → new.told ≡ old.told → new.drawn ≡ [] → new.unsent ≡ old.unsent ++ bytes → new.below.bytes ≡ old.below.bytes → known_screen new ≡ next_screen old → IsSent old bytes → IsSparing old → IsSparing new
message_keeps old new done bytes all told drawn unsent below screen sent h =
    some_by new.below.bytes (λ taken. IfSome (known_screen new) (Follows new taken)) (λ taken e. some_by (known_screen new) (Follows new taken) (λ next k.
    let is : next_screen old ≡ Some next = sym screen ∙ k in
    message_follows old new done bytes taken next all told drawn unsent (some_at old.below.bytes taken (λ t. IfSome (known_screen old) (Follows old t)) (sym below ∙ e) h)
    (goes_on old) refl is (match_at (next_screen old) next (bytes ≡ old.drawn) (λ g. LeadsOn old g bytes) is sent)))

-- ---- after a flush

-- the known screen is shown
pub flushed_shown : (old new : Spared) → IsFlushed old new → IsSparing new → new.known ≡ true → IfSome new.below.bytes (λ taken. IsShown new taken new.screen)
flushed_shown old new done h known =
    some_by new.below.bytes (λ taken. IsShown new taken new.screen) (λ taken e.
    let screen : known_screen new ≡ Some new.screen = ap (λ b. cond b (Some new.screen) None) known in
    let f : Follows new taken new.screen = some_at (known_screen new) new.screen (Follows new taken) screen (some_at new.below.bytes taken (λ t. IfSome (known_screen new) (Follows new t)) e h) in
    let shown : IsShown new taken new.screen = record {
      before = f.before;
      since = f.since;
      put = f.put ∙ ap (λ l. f.before ++ l) (ap (λ l. f.since ++ l) done.drawn ∙ append-nil f.since);
      read = f.read;
      earlier = f.earlier;
      sent = f.sent;
      took = sym (ap (λ l. taken ++ l) done.unsent ∙ append-nil taken) ∙ f.took;
      shows = f.shows;
    } in
    shown)

-- a flush takes no byte away, whatever it answers
pub flush_bytes : {T E : Type 0} (old new : Trace) (r : Result T E) → Flushes old r new → new.bytes ≡ old.bytes
flush_bytes old new (Ok t) h = ap (λ (t : Trace). t.bytes) h ∙ flushed_bytes old
flush_bytes old new (Err e) h = ap (λ (t : Trace). t.bytes) h ∙ failed_bytes old
