-- What the code writes is what the definitions say.
use Rattle.std.proofs.Common.{◌≡◌, ◌≢◌, ⊎_elim, ℕ, suc, zero, ◌+◌, ◌^◌, ◌<◌, ◌≤◌, Bool, true, false, not, cond, eqb, leb, List, [], ◌∷◌, ◌++◌, length, map, get_or, take, drop, Option, Some, None, refl, ap, sym, ◌∙◌, subst, arith, append_assoc}
use Rattle.std.specs.Prelude.{option_map, option_and_then, IfSome, ◌&&◌}
use Rattle.std.specs.Str.{chars}
use Rattle.mad_screen.specs.Painting.{IsShown}
use Rattle.std.specs.List.{AllByRecursion, flat_map}
use Rattle.std.specs.Char.{is_ascii}
use Rattle.std.proofs.lemmas.Bool.{and_parts, false≢true, cases_lt}
use Rattle.std.proofs.lemmas.Bool.Decides.{nat_tests}
use Rattle.std.proofs.lemmas.List.{drop_more, drop_all, take_more, take_all}
use Rattle.std.proofs.lemmas.Option.{slice_get_read, slice_get_past}
use Rattle.percent_encoding.specs.AsciiSet.{should_percent_encode}
use Rattle.percent_encoding.specs.Percent.{percent_encode, percent_encode_byte, encode_byte}
use Rattle.mad_links.specs.Addresses.{IsWritten, is_kept_byte, written_byte, written_address, has_link_scheme, link_address}
use Rattle.mad_links.specs.SkippingTerminal.{cut_at}
use Rattle.mad_links.specs.LinkRows.{LinkedPiece, AreAddresses, AreLinkedPieces, IsLinkedPiece, address_of, linked_bytes_from, begun_bytes}
use Rattle.mad_links.specs.Pieces.{AreShownTexts, piece_of}
use Rattle.mad_links.specs.declared.rows.LinkPiece.{LinkPiece}
use Rattle.mad_links.specs.declared.addresses.TheConstants.{ESCAPED}
use Rattle.mad_links.proofs.CalmLemmas.{cut_there}
use Rattle.mad_links.proofs.LinkRowLemmas.{rows_in_steps}

-- ---- the scheme

-- a text without the character isn't cut
pub none_cut : (code : ℕ) (cs : List ℕ) → ((i : ℕ) → i < length cs → get_or cs i 0 ≢ code) → cut_at code cs ≡ None
none_cut code [] h = refl
none_cut code (c ∷ cs) h =
    let other : c ≢ code = h 0 (omega arith) in
    let test : eqb c code ≡ false = grind (arith, nat_tests) in
    ap (λ (b : Bool). cond b (Some ([], cs)) (option_map (λ (p : List ℕ × List ℕ). (c ∷ p.0, p.1)) (cut_at code cs))) test
    ∙ ap (option_map (λ (p : List ℕ × List ℕ). (c ∷ p.0, p.1))) (none_cut code cs (λ i k. h (suc i) (omega arith)))

none_of : (code : ℕ) (cs : List ℕ) → ((i : ℕ) → i < length cs → get_or cs i 0 ≢ code) → AllByRecursion (λ c. c ≢ code) cs
none_of code [] h = tt
none_of code (c ∷ cs) h = (h 0 (omega arith), none_of code cs (λ i k. h (suc i) (omega arith)))

-- one with it is cut at the first
pub some_cut : (code : ℕ) (cs xs ys : List ℕ) → cs ≡ xs ++ code ∷ ys → ((i : ℕ) → i < length xs → get_or xs i 0 ≢ code) → cut_at code cs ≡ Some (xs, ys)
some_cut code cs xs ys e h = ap (cut_at code) e ∙ cut_there code xs ys (none_of code xs h)

-- ---- the escapes

-- whether the set says of a byte what the definition says
abbrev agrees : ℕ → Bool
agrees b = cond (should_percent_encode ESCAPED b) (not (is_kept_byte b)) (is_kept_byte b)

abbrev all_agree : ℕ → Bool
all_agree zero = true
all_agree (suc n) = agrees n && all_agree n

ascii_agrees : all_agree 128 ≡ true
unfolding should_percent_encode
ascii_agrees = refl

agree_below : (n b : ℕ) → all_agree n ≡ true → b < n → agrees b ≡ true
agree_below zero b h small = absurd (omega arith)
agree_below (suc n) b h small =
    let parts = and_parts (agrees n) (all_agree n) h in
    ⊎_elim (λ (below : b < n). agree_below n b parts.1 below)
    (λ (here : n ≤ b). let same : n ≡ b = omega arith in subst (λ k. agrees k ≡ true) same parts.0)
    (cases_lt b n)

high_agrees : (b : ℕ) → 128 ≤ b → agrees b ≡ true
unfolding should_percent_encode
high_agrees b high =
    let outside : is_ascii b ≡ false = grind (arith, nat_tests) in
    let dropped : is_kept_byte b ≡ false = grind (arith, nat_tests) in
    rw (outside, dropped) refl

byte_agrees : (b : ℕ) → agrees b ≡ true
byte_agrees b = ⊎_elim (λ (low : b < 128). agree_below 128 b ascii_agrees low) (λ (high : 128 ≤ b). high_agrees b high) (cases_lt b 128)

byte_by : (b : ℕ) (s k : Bool) → cond s (not k) k ≡ true → cond s (percent_encode_byte b) (b ∷ []) ≡ cond k (b ∷ []) (percent_encode_byte b)
byte_by b true true e = absurd (false≢true e)
byte_by b true false e = refl
byte_by b false true e = refl
byte_by b false false e = absurd (false≢true e)

byte_written : (b : ℕ) → encode_byte ESCAPED b ≡ written_byte b
byte_written b = byte_by b (should_percent_encode ESCAPED b) (is_kept_byte b) (byte_agrees b)

bytes_written : (a : List ℕ) → flat_map (encode_byte ESCAPED) a ≡ written_address a
bytes_written [] = refl
bytes_written (b ∷ a) = ap (λ l. l ++ flat_map (encode_byte ESCAPED) a) (byte_written b) ∙ ap (λ l. written_byte b ++ l) (bytes_written a)

-- what the kit escapes is what is written
pub address_written : (a : List ℕ) → percent_encode ESCAPED a ≡ written_address a
unfolding percent_encode
address_written a = bytes_written a

-- the bytes that the code found are the address as it is written
pub encoded : (out start text given raw : List ℕ) → out ≡ start ++ text → start ≡ [] → text ≡ percent_encode ESCAPED given → given ≡ raw → out ≡ written_address raw
encoded out start text given raw a b c d = a ∙ ap (λ l. l ++ text) b ∙ c ∙ ap (percent_encode ESCAPED) d ∙ address_written raw

-- ---- the length

-- an address that is too long is refused
pub too_long : (raw : List ℕ) → 700 < length (written_address raw) → link_address raw ≡ None
too_long raw long =
    let test : leb (length (written_address raw)) 700 ≡ false = grind (arith, nat_tests) in
    refused (has_link_scheme raw) (leb (length (written_address raw)) 700) test
  where
    refused : (a b : Bool) → b ≡ false → cond (a && b) (Some (written_address raw)) None ≡ None
    refused true b e = ap (λ t. cond t (Some (written_address raw)) None) e
    refused false b e = refl

-- one that isn't, with one of the schemes, is written
pub fits : (raw : List ℕ) → has_link_scheme raw ≡ true → length (written_address raw) ≤ 700 → link_address raw ≡ Some (written_address raw)
fits raw scheme short =
    let test : leb (length (written_address raw)) 700 ≡ true = grind (arith, nat_tests) in
    ap (λ t. cond (t && leb (length (written_address raw)) 700) (Some (written_address raw)) None) scheme
    ∙ ap (λ t. cond t (Some (written_address raw)) None) test

-- ---- rows

-- a piece more of a row, with a command where its link is another
pub write_step : (addresses : List (Option (List ℕ))) (ps : List LinkPiece) (i : ℕ) (was now : Option ℕ) (p : LinkPiece) (before row more : List ℕ) → i < length ps → p ≡ get_or ps i p
    → before ≡ row ++ linked_bytes_from addresses was (map piece_of (drop i ps))
    → more ≡ row ++ (begun_bytes addresses was (piece_of p ∷ [])).0 → now ≡ (begun_bytes addresses was (piece_of p ∷ [])).1
    → before ≡ more ++ linked_bytes_from addresses now (map piece_of (drop (i + 1) ps))
write_step addresses ps i was now p before row more below is inv written opens =
    let rest : List LinkedPiece = map piece_of (drop (i + 1) ps) in
    let begun : List ℕ × Option ℕ = begun_bytes addresses was (piece_of p ∷ []) in
    let next : drop i ps ≡ p ∷ drop (i + 1) ps = drop_more ps i p below ∙ ap (λ (q : LinkPiece). q ∷ drop (i + 1) ps) (sym is) in
    inv ∙ ap (λ (l : List LinkPiece). row ++ linked_bytes_from addresses was (map piece_of l)) next
    ∙ ap (λ l. row ++ l) (rows_in_steps addresses was (piece_of p ∷ []) rest)
    ∙ sym (append_assoc row begun.0 (linked_bytes_from addresses begun.1 rest))
    ∙ ap (λ (o : Option ℕ). (row ++ begun.0) ++ linked_bytes_from addresses o rest) (sym opens)
    ∙ ap (λ l. l ++ linked_bytes_from addresses now rest) (sym written)

-- no piece is left: the last link is closed
pub write_end : (addresses : List (Option (List ℕ))) (ps : List LinkPiece) (i : ℕ) (was : Option ℕ) (before row done : List ℕ) → length ps ≤ i
    → before ≡ row ++ linked_bytes_from addresses was (map piece_of (drop i ps)) → done ≡ row ++ linked_bytes_from addresses was [] → done ≡ before
write_end addresses ps i was before row done all inv last =
    last ∙ sym (inv ∙ ap (λ (l : List LinkPiece). row ++ linked_bytes_from addresses was (map piece_of l)) (drop_all i ps all))

-- ---- what is known of addresses and pieces

-- the addresses before this index can be written
abbrev pub AreWrittenBefore : ℕ → List (Option (List ℕ)) → Type 0
AreWrittenBefore n addresses = (k : ℕ) (a : List ℕ) → k < n → address_of addresses k ≡ Some a → IsWritten a

at_index : (addresses : List (Option (List ℕ))) (k : ℕ) (o : Option (List ℕ)) → k < length addresses → o ≡ get_or addresses k o → address_of addresses k ≡ o
at_index addresses k o below is = ap (option_and_then (λ (a : Option (List ℕ)). a)) (slice_get_read addresses (length addresses) k o refl below is)

-- an address more can be written
pub one_more_written : (addresses : List (Option (List ℕ))) (n : ℕ) (o : Option (List ℕ)) → n < length addresses → o ≡ get_or addresses n o → IfSome o IsWritten → AreWrittenBefore n addresses → AreWrittenBefore (n + 1) addresses
one_more_written addresses n o below is written before k a small e =
    ⊎_elim (λ (less : k < n). before k a less e)
    (λ (here : n ≤ k).
    let same : k ≡ n = omega arith in
    let there : o ≡ Some a = sym (at_index addresses n o below is) ∙ ap (address_of addresses) (sym same) ∙ e in
    subst (λ (p : Option (List ℕ)). IfSome p IsWritten) there written)
    (cases_lt k n)

none_some : {A B : Type 0} {a : A} → None ≡ Some a → B
none_some h = absurd (clash h)
  where
    clash : {A : Type 0} {a : A} → None ≡ Some a → ⊥
    clash e = cc

within : (addresses : List (Option (List ℕ))) (k : ℕ) (a : List ℕ) → address_of addresses k ≡ Some a → k < length addresses
within addresses k a e =
    ⊎_elim (λ (below : k < length addresses). below)
    (λ (past : length addresses ≤ k). none_some (sym (ap (option_and_then (λ (b : Option (List ℕ)). b)) (slice_get_past addresses k past)) ∙ e))
    (cases_lt k (length addresses))

-- so all can
pub all_written : (addresses : List (Option (List ℕ))) (n : ℕ) → length addresses ≤ n → length addresses < 2 ^ 64 → AreWrittenBefore n addresses → AreAddresses addresses
all_written addresses n all small before = record {
  written = λ k a e. let there : k < length addresses = within addresses k a e in (before k a (omega arith) e, omega arith);
}

-- it is one of the pieces that the laws speak of, if its text shows cells of its own
abbrev pub IsKnownPiece : LinkPiece → Type 0
IsKnownPiece p = IsShown (chars p.text.now) → IsLinkedPiece (piece_of p)

all_push : {A : Type 0} (P : A → Type 0) (xs : List A) (x : A) → AllByRecursion P xs → P x → AllByRecursion P (xs ++ x ∷ [])
all_push P [] x h k = (k, tt)
all_push P (y ∷ xs) x h k = (h.0, all_push P xs x h.1 k)

-- a piece more is one that the laws speak of
pub one_more_piece : (ps : List LinkPiece) (n : ℕ) (p : LinkPiece) → n < length ps → p ≡ get_or ps n p → AllByRecursion IsKnownPiece (take n ps) → IsKnownPiece p → AllByRecursion IsKnownPiece (take (n + 1) ps)
one_more_piece ps n p below is before own =
    subst (AllByRecursion IsKnownPiece) (sym (take_more ps n p below)) (all_push IsKnownPiece (take n ps) (get_or ps n p) before (subst IsKnownPiece is own))

known_pieces : (ps : List LinkPiece) → AllByRecursion IsKnownPiece ps → AreShownTexts ps → AreLinkedPieces (map piece_of ps)
known_pieces [] known shown = tt
known_pieces (p ∷ ps) known shown = (known.0 shown.0, known_pieces ps known.1 shown.1)

-- so all are
pub all_known : (ps : List LinkPiece) (n : ℕ) → length ps ≤ n → AllByRecursion IsKnownPiece (take n ps) → AreShownTexts ps → AreLinkedPieces (map piece_of ps)
all_known ps n all known shown = known_pieces ps (subst (AllByRecursion IsKnownPiece) (take_all n ps all) known) shown
