-- The skin that a word is.
use Rattle.std.proofs.Common.{◌≡◌, Bool, true, false, ℕ, List, String, Vec, Some, None, Result, Ok, Err, refl, sym, subst, inl, inr, map, string_bytes, option_map}
use Rattle.std.specs.Borrow.{Bor}
use Rattle.std.specs.declared.alloc.Global.{Global}
use Rattle.std.specs.declared.io.ErrorKind.{ErrorKind}
use Rattle.std.specs.declared.io.ErrorKind.TheVariants.{OutOfMemory}
use Rattle.std.specs.Prelude.{MatchBool, MatchResult}
use Rattle.mad_page_skin.specs.declared.page_skin.PageSkin.{PageSkin}
use Rattle.mad_term.specs.Trace.{Trace}
use Rattle.termimad_given.specs.Given.{Held}
use Rattle.termimad_options.specs.Calls.{reading_of}
use Rattle.termimad_options.specs.declared.calls.Call.{Call}
use Rattle.termimad_options.specs.declared.plans.Plan.{Plan}
use Rattle.termimad_words.specs.GivenSkins.{page_skin_given}
use Rattle.termimad_command.specs.Notices.{SaysNotices, notices}
use Rattle.termimad_command.specs.Runs.{IsNoted, IsUnnoted}
use Rattle.termimad_command.specs.Skins.{IsNoSkin, IsSkinOf, RefusesSkinWord, RefusesText, SaysFault, SaysSkin, is_said, unread_by}
use Rattle.termimad_command.specs.declared.refusals.Refusal.{Refusal}
use Rattle.termimad_command.specs.declared.refusals.Refusal.TheVariants.{Mistaken, Undecoded, Lacking, Misplaced, Skin, FaultySkin, Unreadable, NotUtf8, Output, Unread, Memory}

-- a skin that is read, with its unknown keys
abbrev pub Read : Type 0
Read = PageSkin × Vec (String Global) Global

-- the same, its keys as texts
abbrev pub read_of : Read → PageSkin × List (List ℕ)
read_of read = (read.0, map string_bytes read.1.items)

-- the word says it itself
pub said_skin : (holds : Held) (word : List ℕ) (r : Result Read Refusal) → is_said word ≡ true
    → MatchResult r (λ read. SaysSkin word (read_of read)) (RefusesText word) → MatchResult r (λ read. IsSkinOf holds word (read_of read)) (RefusesSkinWord word)
said_skin holds word (Ok skin) e h = inl (e, h)
said_skin holds word (Err refusal) e h = subst (λ (b : Bool). MatchBool b (RefusesText word refusal) (IsNoSkin word refusal)) (sym e) h

-- the text that it names says it
pub named_skin : (holds : Held) (word bytes slice : List ℕ) (r : Result Read Refusal) → is_said word ≡ false → holds word bytes → slice ≡ bytes
    → MatchResult r (λ read. SaysSkin slice (read_of read)) (IsNoSkin word) → MatchResult r (λ read. IsSkinOf holds word (read_of read)) (RefusesSkinWord word)
named_skin holds word bytes slice (Ok read) e held s h = inr (e, (bytes, held, subst (λ (text : List ℕ). SaysSkin text (read_of read)) s h))
named_skin holds word bytes slice (Err refusal) e held s h = subst (λ (b : Bool). MatchBool b (RefusesText word refusal) (IsNoSkin word refusal)) (sym e) h

unread_is_none : (word : Bor (List ℕ)) (kind : ErrorKind) → IsNoSkin word.now (unread_by word kind)
unread_is_none word OutOfMemory = tt
unread_is_none word _ = refl

-- it names none that can be read
pub no_skin_named : (word : Bor (List ℕ)) (kind : ErrorKind) (refusal : Refusal) → is_said word.now ≡ false → refusal ≡ unread_by word kind
    → RefusesSkinWord word.now refusal
no_skin_named word kind refusal e is =
    subst (λ (b : Bool). MatchBool b (RefusesText word.now refusal) (IsNoSkin word.now refusal)) (sym e)
    (subst (IsNoSkin word.now) (sym is) (unread_is_none word kind))

-- why a text says no skin, by what is wrong with it
pub fault_refuses : (text : List ℕ) (refusal : Refusal) → page_skin_given (Some text) ≡ None → SaysFault text refusal → RefusesText text refusal
fault_refuses text (Mistaken words) e h = absurd h
fault_refuses text Undecoded e h = absurd h
fault_refuses text Lacking e h = absurd h
fault_refuses text Misplaced e h = absurd h
fault_refuses text (Skin word obstacle) e h = absurd h
fault_refuses text (FaultySkin line) e h = (e, h)
fault_refuses text (Unreadable name obstacle) e h = absurd h
fault_refuses text NotUtf8 e h = absurd h
fault_refuses text Output e h = absurd h
fault_refuses text Unread e h = absurd h
fault_refuses text Memory e h = tt

-- why a text says no skin is that there is none, or no memory
text_refused : (word text : List ℕ) (refusal : Refusal) → RefusesText text refusal → IsNoSkin word refusal
text_refused word text (Mistaken words) h = absurd h
text_refused word text Undecoded h = absurd h
text_refused word text Lacking h = absurd h
text_refused word text Misplaced h = absurd h
text_refused word text (Skin named obstacle) h = absurd h
text_refused word text (FaultySkin line) h = tt
text_refused word text (Unreadable name obstacle) h = absurd h
text_refused word text NotUtf8 h = absurd h
text_refused word text Output h = absurd h
text_refused word text Unread h = absurd h
text_refused word text Memory h = tt

-- bytes say the skin that the text says which they are
pub skin_in_text : (word bytes text : List ℕ) (r : Result Read Refusal) → text ≡ bytes → MatchResult r (λ read. SaysSkin text (read_of read)) (RefusesText text)
    → MatchResult r (λ read. SaysSkin bytes (read_of read)) (IsNoSkin word)
skin_in_text word bytes text (Ok read) e h = subst (λ (text : List ℕ). SaysSkin text (read_of read)) e h
skin_in_text word bytes text (Err refusal) e h = text_refused word text refusal h

-- a skin is read, and what isn't known of it is said
pub noted : (holds : Held) (call : Call) (plan : Plan) (read : Read) (slice : List (String Global)) (old new : Trace) → IsSkinOf holds plan.skin.now (read_of read)
    → slice ≡ read.1.items → SaysNotices (notices (option_map reading_of call.grammar) (map string_bytes slice)) old new → IsNoted holds call plan read.0 old new
noted holds call plan read slice old new is s h = record {
  keys = map string_bytes read.1.items;
  is_skin = is;
  said = subst (λ (slice : List (String Global)). SaysNotices (notices (option_map reading_of call.grammar) (map string_bytes slice)) old new) s h;
}

-- without memory no word says a skin
skin_forgotten : (word : List ℕ) → RefusesSkinWord word Memory
skin_forgotten word = by_kind (is_said word)
  where
    by_kind : (b : Bool) → MatchBool b (RefusesText word Memory) (IsNoSkin word Memory)
    by_kind true = tt
    by_kind false = tt

-- what isn't known of it isn't said, since there is no memory
pub unnoted : (plan : Plan) (refusal : Refusal) (old new : Trace) → (refusal ≡ Memory) × (new ≡ old) → IsUnnoted plan refusal old new
unnoted plan refusal old new h = (subst (RefusesSkinWord plan.skin.now) (sym h.0) (skin_forgotten plan.skin.now), h.1)
