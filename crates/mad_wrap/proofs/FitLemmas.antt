-- What holds of lines and of starts as first fit puts one token more.
use Rattle.std.proofs.Common.{false, ◌≡◌, ℕ, ◌+◌, ◌<◌, true, Option, Some, None, is_some, List, [], ◌∷◌, ◌++◌, length, refl, sym, ap, ◌∙◌, arith, subst}
use Rattle.std.proofs.lemmas.List.{length-append}
use Rattle.std.specs.Option.{option_or}
use Rattle.mad_measure.specs.declared.tokens.Token.{Token}
use Rattle.mad_wrap.specs.FirstFit.{Puts}
use Rattle.mad_wrap.specs.LineRoom.{left_of, taken}
use Rattle.mad_wrap.specs.declared.first_fit.FirstFit.{FirstFit}
use Rattle.mad_wrap.specs.declared.first_fit.Put.TheVariants.{OnLine, OnNext, InGap}
use Rattle.mad_wrap.specs.declared.room.Room.{Room}
use Rattle.mad_wrap.specs.declared.wrapped_line.WrappedLine.{WrappedLine}
use Rattle.mad_wrap.proofs.PlacingLemmas.{Progress, AddsToken, IsBegun, progress_fits, progress_ends, progress_begins}
use Rattle.mad_wrap.proofs.StartLemmas.{StartsSoFar, starts_fit, starts_end, starts_next}

-- ---- lines

-- these tokens are placed on lines, all but the last of them whole, and first fit has come so far
pub record LinesSoFar (r : Room) (ts : List Token) (lines : List WrappedLine) (line : WrappedLine) (s : FirstFit) : Type 0 where
  pub room : s.room ≡ r
  pub placed : Progress r ts lines line s.room_left s.ended

-- a token that is put on the line is the last on it
pub line_takes : (r : Room) (ts : List Token) (t : Token) (lines : List WrappedLine) (line new : WrappedLine) (s s' : FirstFit) → LinesSoFar r ts lines line s → Puts s t OnLine s' → AddsToken line t new
    → LinesSoFar r (ts ++ t ∷ []) lines new s'
line_takes r ts t lines line new s s' h put adds =
    let open_line : Progress r ts lines line s.room_left false = subst (Progress r ts lines line s.room_left) put.0 h.placed in
    let placed = progress_fits r ts t lines line new s.room_left open_line put.1 adds in
    subst (LinesSoFar r (ts ++ t ∷ []) lines new) (sym put.2) (record { room = h.room; placed = subst (Progress r (ts ++ t ∷ []) lines new (taken s.room_left t.width)) (sym put.0) placed })

-- a token that is put in the gap leaves the lines as they are
pub line_ends : (r : Room) (ts : List Token) (t : Token) (lines : List WrappedLine) (line : WrappedLine) (s s' : FirstFit) → LinesSoFar r ts lines line s → Puts s t InGap s'
    → LinesSoFar r (ts ++ t ∷ []) lines line s'
line_ends r ts t lines line s s' h put =
    subst (LinesSoFar r (ts ++ t ∷ []) lines line) (sym put.2) (record { room = h.room; placed = progress_ends r ts t lines line s.room_left s.ended h.placed put.0 put.1 })

-- a token that is put on the next line begins it
pub line_begins : (r : Room) (ts : List Token) (t : Token) (lines new_lines : List WrappedLine) (line begun new : WrappedLine) (s s' : FirstFit) → LinesSoFar r ts lines line s → Puts s t OnNext s'
    → new_lines ≡ lines ++ line ∷ [] → IsBegun begun → AddsToken begun t new → LinesSoFar r (ts ++ t ∷ []) new_lines new s'
line_begins r ts t lines new_lines line begun new s s' h put pushed begins adds =
    let room : left_of r.width (r.other + t.width) ≡ left_of s.room.width (s.room.other + t.width) = ap (λ (q : Room). left_of q.width (q.other + t.width)) (sym h.room) in
    let placed = progress_begins r ts t lines new_lines line begun new s.room_left s.ended h.placed put.0 put.1 pushed begins adds in
    subst (LinesSoFar r (ts ++ t ∷ []) new_lines new) (sym put.2) (record { room = h.room; placed = subst (λ l. Progress r (ts ++ t ∷ []) new_lines new l false) room placed })

-- ---- starts

-- these are the starts of the lines that `i` tokens are placed on, and first fit has come so far
pub record StartsUpTo (r : Room) (ts : List Token) (dropped : Option ℕ) (starts : List ℕ) (i : ℕ) (s : FirstFit) : Type 0 where
  pub room : s.room ≡ r
  pub ended : s.ended ≡ is_some dropped
  pub so_far : StartsSoFar r ts s.room_left dropped starts
  pub number : i ≡ length ts

number_more : (ts : List Token) (t : Token) (i next : ℕ) → i ≡ length ts → next ≡ i + 1 → next ≡ length (ts ++ t ∷ [])
number_more ts t i next is more = omega (arith, is, more, length-append ts (t ∷ []))

-- a token that is put on the line is no start
pub start_stays : (r : Room) (ts : List Token) (t : Token) (dropped : Option ℕ) (starts : List ℕ) (i next : ℕ) (s s' : FirstFit) → StartsUpTo r ts dropped starts i s → Puts s t OnLine s' → next ≡ i + 1
    → StartsUpTo r (ts ++ t ∷ []) dropped starts next s'
start_stays r ts t dropped starts i next s s' h put more =
    subst (StartsUpTo r (ts ++ t ∷ []) dropped starts next) (sym put.2) (record {
      room = h.room;
      ended = h.ended;
      so_far = starts_fit r ts t s.room_left (taken s.room_left t.width) dropped s.ended starts h.so_far h.ended put.0 put.1 refl;
      number = number_more ts t i next h.number more;
    })

ended_now : (dropped : Option ℕ) (i : ℕ) → true ≡ is_some (option_or dropped (Some i))
ended_now None i = refl
ended_now (Some n) i = refl

-- a token that is put in the gap is no start, but the first dropped one, where none was dropped before it
pub start_drops : (r : Room) (ts : List Token) (t : Token) (dropped new_dropped : Option ℕ) (starts : List ℕ) (i next : ℕ) (s s' : FirstFit) → StartsUpTo r ts dropped starts i s → Puts s t InGap s' → next ≡ i + 1
    → new_dropped ≡ option_or dropped (Some i) → StartsUpTo r (ts ++ t ∷ []) new_dropped starts next s'
start_drops r ts t dropped new_dropped starts i next s s' h put more new =
    subst (StartsUpTo r (ts ++ t ∷ []) new_dropped starts next) (sym put.2) (record {
      room = h.room;
      ended = ended_now dropped i ∙ ap is_some (sym new);
      so_far = starts_end r ts t s.room_left dropped new_dropped s.ended starts i h.so_far h.ended h.number put.0 put.1 new;
      number = number_more ts t i next h.number more;
    })

-- a token that is put on the next line is a start, unless it is the first token
pub start_begins : (r : Room) (ts : List Token) (t : Token) (dropped : Option ℕ) (starts new_starts : List ℕ) (i next : ℕ) (s s' : FirstFit) → StartsUpTo r ts dropped starts i s → Puts s t OnNext s' → next ≡ i + 1
    → (0 < i → new_starts ≡ starts ++ i ∷ []) × (i ≡ 0 → new_starts ≡ starts) → StartsUpTo r (ts ++ t ∷ []) None new_starts next s'
start_begins r ts t dropped starts new_starts i next s s' h put more pushed =
    let left = left_of s.room.width (s.room.other + t.width) in
    let room : left ≡ left_of r.width (r.other + t.width) = ap (λ (q : Room). left_of q.width (q.other + t.width)) h.room in
    subst (StartsUpTo r (ts ++ t ∷ []) None new_starts next) (sym put.2) (record {
      room = h.room;
      ended = refl;
      so_far = starts_next r ts t s.room_left left dropped s.ended starts new_starts i h.so_far h.ended h.number put.0 put.1 pushed room;
      number = number_more ts t i next h.number more;
    })
