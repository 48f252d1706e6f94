-- A whole skin reads back from what it is written as.
use Rattle.std.proofs.Common.{◌≡◌, ℕ, Bool, true, false, ◌&&◌, ◌||◌, List, [], ◌∷◌, ◌++◌, Option, Some, None, Ok, refl, ap, sym, ◌∙◌, subst}
use Rattle.std.specs.Prelude.{codes, is_some, if◌then◌else◌, Err, Result}
use Rattle.std.specs.declared.cmp.Ordering.TheVariants.{Less, Equal, Greater}
use Rattle.std.specs.Ordering.{match_ordering, nat_cmp}
use Rattle.std.specs.Cmp.Lexicographic.{slice_cmp}
use Rattle.std.proofs.lemmas.Bool.{false≢true}
use Rattle.std.proofs.lemmas.Map.Lookups.{exact_bytes}
use Rattle.serde_json.specs.Data.{Data, Members, member, no_members, put}
use Rattle.serde_json.specs.Find.{get_member}
use Rattle.serde_json.specs.Written.{has_float, members_have_float}
use Rattle.mad_layout.specs.declared.skin.MadSkin.{MadSkin}
use Rattle.mad_page_skin.specs.PageSkins.{page_skin_of}
use Rattle.mad_page_skin.specs.declared.page_skin.PageSkin.{PageSkin}
use Rattle.mad_json.specs.Faults.{SkinFault, ValueFault, at_key, two_names, wrong_kind}
use Rattle.mad_json.specs.Fields.{field_named}
use Rattle.mad_json.specs.Reading.{Found, found_part, is_seen, member_read, members_read, names_again, nothing_found, now_seen, part_said, skin_and_unknown, skin_read, value_read}
use Rattle.mad_json.specs.ReadsBack.{SkinReadsBack}
use Rattle.mad_json.specs.Texts.{and_next}
use Rattle.mad_json.specs.Written.{char_data, skin_data, style_data, with_additions, with_borders, with_chars, with_items, with_lines}
use Rattle.mad_json.specs.declared.fields.Field.{Field}
use Rattle.mad_page_json.specs.PageReading.{is_page_key, page_beside, page_skin_read, unknown_in}
use Rattle.mad_page_json.specs.PageReadsBack.{PageReadsBack, PageSkinReadsBack}
use Rattle.mad_page_json.specs.PageWriting.{first_members, page_data, with_page, with_parts}
use Rattle.mad_page_json.specs.Parts.{char_parts, style_parts}
use Rattle.mad_page_json.proofs.BackLemmas.{both_true, get_same}

-- ---- members that are all known

-- each key names a part of a text's skin
abbrev all_known : Members → Bool
all_known no_members = true
all_known (member key d ms) = is_some (field_named key) && all_known ms

-- the part that it names
some_field : (o : Option Field) → is_some o ≡ true → (field : Field) × (o ≡ Some field)
some_field None h = absurd (false≢true h)
some_field (Some field) h = (field, refl)

-- what was read, with other unknown keys
abbrev told : List (List ℕ) → Result Found SkinFault → Result Found SkinFault
told unknown (Ok found) = Ok (record found { unknown = unknown })
told unknown (Err fault) = Err fault

part_told : (key : List ℕ) (seen : List Bool) (u v : List (List ℕ)) (said : Result MadSkin ValueFault) → found_part key seen v said ≡ told v (found_part key seen u said)
part_told key seen u v (Ok skin) = refl
part_told key seen u v (Err fault) = refl

read_told : (again float : Bool) (key : List ℕ) (seen : List Bool) (u v : List (List ℕ)) (said : Result MadSkin ValueFault)
    → (if again then Err (two_names key) else if float then Err (at_key key wrong_kind) else found_part key seen v said) ≡ told v (if again then Err (two_names key) else if float then Err (at_key key wrong_kind) else found_part key seen u said)
read_told true float key seen u v said = refl
read_told false true key seen u v said = refl
read_told false false key seen u v said = part_told key seen u v said

member_told : (key : List ℕ) (d : Data) (field : Field) (found : Found) (v : List (List ℕ)) → field_named key ≡ Some field → member_read key d (record found { unknown = v }) ≡ told v (member_read key d found)
member_told key d field found v named =
    ap (λ (o : Option Field). if names_again o found.seen then Err (two_names key) else if has_float d then Err (at_key key wrong_kind) else value_read o key d (record found { unknown = v })) named
    ∙ read_told (is_seen field found.seen) (has_float d) key (now_seen field found.seen) found.unknown v (part_said field d found.skin)
    ∙ sym (ap (λ (o : Option Field). told v (if names_again o found.seen then Err (two_names key) else if has_float d then Err (at_key key wrong_kind) else value_read o key d found)) named)

next_told : (r : Result Found SkinFault) (v : List (List ℕ)) (next : Found → Result Found SkinFault) → ((found : Found) → next (record found { unknown = v }) ≡ told v (next found)) → and_next (told v r) next ≡ told v (and_next r next)
next_told (Ok found) v next h = h found
next_told (Err fault) v next h = refl

members_told : (ms : Members) (found : Found) (v : List (List ℕ)) → all_known ms ≡ true → members_read ms (record found { unknown = v }) ≡ told v (members_read ms found)
members_told no_members found v h = refl
members_told (member key d ms) found v h =
    let both = both_true (is_some (field_named key)) (all_known ms) h in
    let named = some_field (field_named key) both.0 in
    ap (λ (r : Result Found SkinFault). and_next r (members_read ms)) (member_told key d named.0 found v named.1)
    ∙ next_told (member_read key d found) v (members_read ms) (λ other. members_told ms other v both.1)

-- a member that names a part leaves the unknown keys
part_keeps : (key : List ℕ) (seen : List Bool) (u : List (List ℕ)) (said : Result MadSkin ValueFault) → told u (found_part key seen u said) ≡ found_part key seen u said
part_keeps key seen u (Ok skin) = refl
part_keeps key seen u (Err fault) = refl

read_keeps : (again float : Bool) (key : List ℕ) (seen : List Bool) (u : List (List ℕ)) (said : Result MadSkin ValueFault)
    → told u (if again then Err (two_names key) else if float then Err (at_key key wrong_kind) else found_part key seen u said) ≡ (if again then Err (two_names key) else if float then Err (at_key key wrong_kind) else found_part key seen u said)
read_keeps true float key seen u said = refl
read_keeps false true key seen u said = refl
read_keeps false false key seen u said = part_keeps key seen u said

member_keeps : (key : List ℕ) (d : Data) (field : Field) (found : Found) → field_named key ≡ Some field → told found.unknown (member_read key d found) ≡ member_read key d found
member_keeps key d field found named =
    ap (λ (o : Option Field). told found.unknown (if names_again o found.seen then Err (two_names key) else if has_float d then Err (at_key key wrong_kind) else value_read o key d found)) named
    ∙ read_keeps (is_seen field found.seen) (has_float d) key (now_seen field found.seen) found.unknown (part_said field d found.skin)
    ∙ sym (ap (λ (o : Option Field). if names_again o found.seen then Err (two_names key) else if has_float d then Err (at_key key wrong_kind) else value_read o key d found) named)

-- ---- one member more, which is unknown

no_field : (o : Option Field) → is_some o ≡ true → o ≡ None → ⊥
no_field o some none = false≢true (sym (ap is_some none) ∙ some)

page_read : (p : Data) (found : Found) → has_float p ≡ false → member_read (codes "page") p found ≡ Ok (record found { unknown = found.unknown ++ codes "page" ∷ [] })
page_read p found flat = ap (λ (float : Bool). if float then Err (at_key (codes "page") wrong_kind) else Ok (record found { unknown = found.unknown ++ codes "page" ∷ [] })) flat

next_more : (r : Result Found SkinFault) (u : List (List ℕ)) (longer next : Found → Result Found SkinFault) → told u r ≡ r → ((found : Found) → longer found ≡ told (found.unknown ++ codes "page" ∷ []) (next found))
    → and_next r longer ≡ told (u ++ codes "page" ∷ []) (and_next r next)
next_more (Ok found) u longer next keeps h =
    let same : u ≡ found.unknown = cc in
    h found ∙ ap (λ (v : List (List ℕ)). told (v ++ codes "page" ∷ []) (next found)) (sym same)
next_more (Err fault) u longer next keeps h = refl

page_more : (p : Data) (ms : Members) (found : Found) → has_float p ≡ false → all_known ms ≡ true → members_read (put (codes "page") p ms) found ≡ told (found.unknown ++ codes "page" ∷ []) (members_read ms found)
page_more p no_members found flat h = ap (λ (r : Result Found SkinFault). and_next r (members_read no_members)) (page_read p found flat)
page_more p (member l e ms) found flat h =
    let both = both_true (is_some (field_named l)) (all_known ms) h in
    let named = some_field (field_named l) both.0 in
    elim (slice_cmp nat_cmp (codes "page") l) as (λ o. slice_cmp nat_cmp (codes "page") l ≡ o → members_read (match_ordering o (member (codes "page") p (member l e ms)) (member l p ms) (member l e (put (codes "page") p ms))) found ≡ told (found.unknown ++ codes "page" ∷ []) (members_read (member l e ms) found)) [
      | Less ↦ λ is. ap (λ (r : Result Found SkinFault). and_next r (members_read (member l e ms))) (page_read p found flat) ∙ members_told (member l e ms) found (found.unknown ++ codes "page" ∷ []) h
      | Equal ↦ λ is. absurd (no_field (field_named l) both.0 (ap field_named (sym (exact_bytes (codes "page") l is))))
      | Greater ↦ λ is. next_more (member_read l e found) found.unknown (members_read (put (codes "page") p ms)) (members_read ms) (member_keeps l e named.0 found named.1) (λ other. page_more p ms other flat both.1)
    ] refl

-- the skin that was read, or another
abbrev skin_or : MadSkin → Result (MadSkin × List (List ℕ)) SkinFault → MadSkin
skin_or other (Ok said) = said.0
skin_or other (Err fault) = other

read_more : (r : Result Found SkinFault) (text : MadSkin) (u : List (List ℕ)) → skin_and_unknown r ≡ Ok (text, []) → skin_and_unknown (told u r) ≡ Ok (text, u)
read_more (Ok found) text u h = let same : found.skin ≡ text = ap (skin_or text) h in subst (λ (skin : MadSkin). skin_and_unknown (told u (Ok found)) ≡ Ok (skin, u)) same refl
read_more (Err fault) text u h = absurd cc

-- ---- what is written

first_flat : (a b : Bool) → (a || b) ≡ false → a ≡ false
first_flat true b h = absurd (false≢true (sym h))
first_flat false b h = refl

rest_flat : (a b : Bool) → (a || b) ≡ false → b ≡ false
rest_flat true b h = absurd (false≢true (sym h))
rest_flat false b h = h

either_flat : (a b : Bool) → a ≡ false → b ≡ false → (a || b) ≡ false
either_flat true b h k = absurd (false≢true (sym h))
either_flat false b h k = k

text_known : (text : MadSkin) (name : Option (List ℕ)) → all_known (with_borders name (with_items text (with_lines text (with_chars text (with_additions text no_members))))) ≡ true
text_known text None = refl
text_known text (Some name) = refl

flat_put : (k : List ℕ) (d : Data) (ms : Members) → has_float d ≡ false → members_have_float ms ≡ false → members_have_float (put k d ms) ≡ false
flat_put k d no_members flat h = ap (λ (b : Bool). b || false) flat
flat_put k d (member l e ms) flat h =
    elim (slice_cmp nat_cmp k l) as (λ o. members_have_float (match_ordering o (member k d (member l e ms)) (member l d ms) (member l e (put k d ms))) ≡ false) [
      | Less ↦ ap (λ (b : Bool). b || members_have_float (member l e ms)) flat ∙ h
      | Equal ↦ ap (λ (b : Bool). b || members_have_float ms) flat ∙ rest_flat (has_float e) (members_have_float ms) h
      | Greater ↦ either_flat (has_float e) (members_have_float (put k d ms)) (first_flat (has_float e) (members_have_float ms) h) (flat_put k d ms flat (rest_flat (has_float e) (members_have_float ms) h))
    ]

parts_flat : {S : Type 0} (shown : S → Data) (parts : List (List ℕ × S)) (ms : Members) → ((part : S) → has_float (shown part) ≡ false) → members_have_float ms ≡ false → members_have_float (with_parts shown parts ms) ≡ false
parts_flat shown [] ms flat h = h
parts_flat shown (named ∷ parts) ms flat h = parts_flat shown parts (put named.0 (shown named.1) ms) flat (flat_put named.0 (shown named.1) ms (flat named.1) h)

page_flat : (skin : PageSkin) → has_float (page_data skin) ≡ false
page_flat skin = parts_flat style_data (style_parts skin) (with_parts char_data (char_parts skin) (first_members skin)) (λ style. refl) (parts_flat char_data (char_parts skin) (first_members skin) (λ drawn. refl) refl)

-- ---- no key of a page is unknown

both_none : (t : Bool) (key : List ℕ) (u v : List (List ℕ)) → (if t then [] else key ∷ []) ++ u ≡ [] → (u ≡ [] → v ≡ []) → (if t then [] else key ∷ []) ++ v ≡ []
both_none true key u v h next = next h
both_none false key u v h next = absurd cc

unknown_put : (skin : PageSkin) (k : List ℕ) (d : Data) (ms : Members) → is_page_key skin k ≡ true → unknown_in skin ms ≡ [] → unknown_in skin (put k d ms) ≡ []
unknown_put skin k d no_members known h = ap (λ (t : Bool). (if t then [] else k ∷ []) ++ []) known
unknown_put skin k d (member l e ms) known h =
    elim (slice_cmp nat_cmp k l) as (λ o. unknown_in skin (match_ordering o (member k d (member l e ms)) (member l d ms) (member l e (put k d ms))) ≡ []) [
      | Less ↦ ap (λ (t : Bool). (if t then [] else k ∷ []) ++ unknown_in skin (member l e ms)) known ∙ h
      | Equal ↦ h
      | Greater ↦ both_none (is_page_key skin l) l (unknown_in skin ms) (unknown_in skin (put k d ms)) h (λ none. unknown_put skin k d ms known none)
    ]

-- each key of these parts names a part of a page
abbrev are_page_keys : {S : Type 0} → PageSkin → List (List ℕ × S) → Bool
are_page_keys skin [] = true
are_page_keys skin (named ∷ parts) = is_page_key skin named.0 && are_page_keys skin parts

unknown_parts : {S : Type 0} (skin : PageSkin) (shown : S → Data) (parts : List (List ℕ × S)) (ms : Members) → are_page_keys skin parts ≡ true → unknown_in skin ms ≡ [] → unknown_in skin (with_parts shown parts ms) ≡ []
unknown_parts skin shown [] ms known h = h
unknown_parts skin shown (named ∷ parts) ms known h =
    let both = both_true (is_page_key skin named.0) (are_page_keys skin parts) known in
    unknown_parts skin shown parts (put named.0 (shown named.1) ms) both.1 (unknown_put skin named.0 (shown named.1) ms both.0 h)

none_unknown : (skin : PageSkin) → unknown_in skin (with_parts style_data (style_parts skin) (with_parts char_data (char_parts skin) (first_members skin))) ≡ []
none_unknown skin = unknown_parts skin style_data (style_parts skin) (with_parts char_data (char_parts skin) (first_members skin)) refl (unknown_parts skin char_data (char_parts skin) (first_members skin) refl refl)

-- ---- the whole

-- a skin whose text's skin and whose page read back is read of the whole value
pub whole_back : (skin : PageSkin) (text d : Data) (name : Option (List ℕ)) → text ≡ skin_data skin.text name → SkinReadsBack skin.text text → d ≡ with_page text (page_data skin) → PageReadsBack skin (page_data skin) → PageSkinReadsBack skin d
whole_back skin text d name is reads d_is page_reads text_back page_back =
    let ms : Members = with_borders name (with_items skin.text (with_lines skin.text (with_chars skin.text (with_additions skin.text no_members)))) in
    let p : Data = page_data skin in
    let pages : Members = with_parts style_data (style_parts skin) (with_parts char_data (char_parts skin) (first_members skin)) in
    let known : all_known ms ≡ true = text_known skin.text name in
    let read : skin_and_unknown (members_read ms nothing_found) ≡ Ok (skin.text, []) = sym (ap skin_read is) ∙ reads text_back in
    let more : skin_and_unknown (members_read (put (codes "page") p ms) nothing_found) ≡ Ok (skin.text, codes "page" ∷ []) = ap skin_and_unknown (page_more p ms nothing_found (page_flat skin) known) ∙ read_more (members_read ms nothing_found) skin.text (codes "page" ∷ []) read in
    ap page_skin_read (d_is ∙ ap (λ (t : Data). with_page t p) is)
    ∙ ap (λ r. and_next r (λ (said : MadSkin × List (List ℕ)). page_beside said.0 said.1 (get_member (codes "page") (put (codes "page") p ms)))) more
    ∙ ap (λ (found : Option Data). page_beside skin.text (codes "page" ∷ []) found) (get_same (codes "page") p ms)
    ∙ ap (λ r. and_next r (λ (other : PageSkin). Ok (other, unknown_in other pages))) (page_reads page_back (page_skin_of skin.text) refl)
    ∙ ap (λ (unknown : List (List ℕ)). Ok (skin, unknown)) (none_unknown skin)
