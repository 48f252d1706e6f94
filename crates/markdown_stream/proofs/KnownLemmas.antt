-- Definitions that don't stand before a part don't matter to it, where it asks for none.
use Rattle.std.proofs.Common.{◌≡◌, ℕ, Bool, true, false, List, [], ◌∷◌, ◌++◌, append-nil, map, refl, sym, ap, ◌∙◌, subst}
use Rattle.std.specs.List.{flat_map, list_all}
use Rattle.std.proofs.lemmas.Bool.{and_parts}
use Rattle.markdown_leaves.specs.Defining.{joined}
use Rattle.markdown_html_text.specs.HtmlLeaves.{html_leaves}
use Rattle.markdown_leaves.specs.Parts.{BlockContent, PartContent, begins, ends, block}
use Rattle.markdown_leaves.specs.Told.{parts_of}
use Rattle.markdown_leaves.specs.declared.parts.Kind.{Kind}
use Rattle.markdown_leaves.specs.declared.parts.Kind.TheVariants.{Nothing, Paragraph, Heading, Indented, Fenced, Html, Table, Rule, Definitions}
use Rattle.markdown_marks.specs.Remaining.{Remaining}
use Rattle.markdown_lines.specs.Links.{Defined}
use Rattle.markdown_definitions.specs.Definitions.{leaf_defined, part_defined, parts_defined, nothing_defined, definitions_of}
use Rattle.markdown_reader.specs.Mapping.{LinkSaid, Mapping, passed, list_ended, leaf_shown, html_leaf, html_parts, leaves_by, leaves_in, shown_part, shown_parts}
use Rattle.markdown_reader.specs.Markdown.{printable_sections, unmarked_links}
use Rattle.markdown_reader.proofs.PartsLemmas.{shown_joined}
use Rattle.markdown_stream.specs.Known.{asks_nothing, AreKnown, AreShownAlike, NameDefined, defines_nothing}
use Rattle.markdown_stream.specs.Laws.{KnownIsWhole, AlikeIsWhole, KnownHasLinks, UndefinedIsWhole, DefinedInFrontIsWhole, WithoutWordsIsSame}
use Rattle.markdown_stream.specs.Provisional.{part_provided}
use Rattle.markdown_stream.specs.Streamed.{Streamed, nothing_streamed, shown_by, part_streamed, parts_streamed, parts_provided, streamed_sections, streamed_links}
use Rattle.markdown_stream.specs.Streaming.{shown_after}
use Rattle.markdown_stream.proofs.MappingLemmas.{parts_behind}

-- ---- what a part asks for

leaf_same : (kind : Kind) (lines : List Remaining) (defined all : Defined) (m : Mapping) → asks_nothing (block (record { kind = kind; apart = false; lines = lines })) ≡ true → leaf_shown defined kind lines m ≡ leaf_shown all kind lines m
leaf_same Nothing lines defined all m h = refl
leaf_same Paragraph lines defined all m h = let no : false ≡ true = h in absurd (cc)
leaf_same (Heading level) lines defined all m h = let no : false ≡ true = h in absurd (cc)
leaf_same Indented lines defined all m h = refl
leaf_same Fenced lines defined all m h = refl
leaf_same Html lines defined all m h = refl
leaf_same (Table columns) lines defined all m h = let no : false ≡ true = h in absurd (cc)
leaf_same Rule lines defined all m h = refl
leaf_same Definitions lines defined all m h = refl

part_same : (part : PartContent) (defined all : Defined) (m : Mapping) → asks_nothing part ≡ true → shown_part defined part m ≡ shown_part all part m
unfolding shown_part
part_same (begins container apart) defined all m h = refl
part_same ends defined all m h = refl
part_same (block leaf) defined all m h = leaf_same leaf.kind leaf.lines defined all (list_ended (passed leaf.apart m)) h

-- ---- html leaf by leaf

html_leaf_same : (apart : Bool) (text : List ℕ) (defined all : Defined) (m : Mapping) → shown_part defined (html_leaf apart text) m ≡ shown_part all (html_leaf apart text) m
unfolding shown_part
html_leaf_same apart text defined all m = refl

html_rest_same : (leaves : List (List ℕ)) (defined all : Defined) (m : Mapping) → shown_parts defined (map (html_leaf false) leaves) m ≡ shown_parts all (map (html_leaf false) leaves) m
unfolding shown_parts
html_rest_same [] defined all m = refl
html_rest_same (leaf ∷ leaves) defined all m = ap (shown_parts defined (map (html_leaf false) leaves)) (html_leaf_same false leaf defined all m) ∙ html_rest_same leaves defined all (shown_part all (html_leaf false leaf) m)

html_parts_same : (apart : Bool) (leaves : List (List ℕ)) (defined all : Defined) (m : Mapping) → shown_parts defined (html_parts apart leaves) m ≡ shown_parts all (html_parts apart leaves) m
unfolding shown_parts
html_parts_same apart [] defined all m = refl
html_parts_same apart (leaf ∷ leaves) defined all m = ap (shown_parts defined (map (html_leaf false) leaves)) (html_leaf_same apart leaf defined all m) ∙ html_rest_same leaves defined all (shown_part all (html_leaf apart leaf) m)

one_same : (part : PartContent) (defined all : Defined) (m : Mapping) → shown_part defined part m ≡ shown_part all part m → shown_parts defined (part ∷ []) m ≡ shown_parts all (part ∷ []) m
unfolding shown_parts
one_same part defined all m e = e

block_same : (leaf : BlockContent) (kind : Kind) (defined all : Defined) (m : Mapping) → shown_part defined (block leaf) m ≡ shown_part all (block leaf) m → shown_parts defined (leaves_by kind leaf) m ≡ shown_parts all (leaves_by kind leaf) m
block_same leaf Html defined all m e = html_parts_same leaf.apart (html_leaves (joined [] leaf.lines)) defined all m
block_same leaf Paragraph defined all m e = one_same (block leaf) defined all m e
block_same leaf (Heading level) defined all m e = one_same (block leaf) defined all m e
block_same leaf Indented defined all m e = one_same (block leaf) defined all m e
block_same leaf Fenced defined all m e = one_same (block leaf) defined all m e
block_same leaf (Table columns) defined all m e = one_same (block leaf) defined all m e
block_same leaf Rule defined all m e = one_same (block leaf) defined all m e
block_same leaf Nothing defined all m e = one_same (block leaf) defined all m e
block_same leaf Definitions defined all m e = one_same (block leaf) defined all m e

leaves_same : (part : PartContent) (defined all : Defined) (m : Mapping) → shown_part defined part m ≡ shown_part all part m → shown_parts defined (leaves_in part) m ≡ shown_parts all (leaves_in part) m
leaves_same (begins container apart) defined all m e = one_same (begins container apart) defined all m e
leaves_same ends defined all m e = one_same ends defined all m e
leaves_same (block leaf) defined all m e = block_same leaf leaf.kind defined all m e

-- a part without words says the same by any definitions
pub without_words : WithoutWordsIsSame
without_words part defined other h m = leaves_same part defined other m (part_same part defined other m h)

-- ---- parts

pub known : (all : Defined) (parts : List PartContent) (s : Streamed) → AreKnown all s.defined parts → (parts_streamed parts s).mapping ≡ shown_parts all (flat_map leaves_in parts) s.mapping
unfolding parts_streamed shown_parts
known all [] s h = refl
known all (part ∷ parts) s h =
    known all parts (part_streamed part s) h.1
    ∙ ap (shown_parts all (flat_map leaves_in parts)) (h.0 s.mapping)
    ∙ sym (shown_joined all (leaves_in part) (flat_map leaves_in parts) s.mapping)

-- a text whose parts are known is shown as the whole
pub known_is_whole : KnownIsWhole
unfolding streamed_sections printable_sections
known_is_whole text h = ap (λ (m : Mapping). m.sections) (known (definitions_of (parts_of text)) (parts_of text) nothing_streamed h)

-- the links of such a text are those of the whole
pub known_has_links : KnownHasLinks
unfolding streamed_links unmarked_links
known_has_links text h = ap (λ (m : Mapping). m.links) (known (definitions_of (parts_of text)) (parts_of text) nothing_streamed h)

-- ---- but for links

-- a mapping without its links
abbrev unlinked : Mapping → Mapping
unlinked m = record m { links = [] }

links_apart : (m : Mapping) → m ≡ shown_after [] m.links (unlinked m)
links_apart m = ap (λ (links : List LinkSaid). record m { links = links }) (sym (append-nil m.links))

-- links that were shown change nothing else of what parts are shown as
links_behind : (defined : Defined) (parts : List PartContent) (m : Mapping) → unlinked (shown_parts defined parts m) ≡ unlinked (shown_parts defined parts (unlinked m))
links_behind defined parts m =
    ap (λ (n : Mapping). unlinked (shown_parts defined parts n)) (links_apart m)
    ∙ ap unlinked (parts_behind defined parts [] m.links (unlinked m))

alike : (all : Defined) (parts : List PartContent) (s : Streamed) → AreShownAlike all s.defined parts → unlinked (parts_streamed parts s).mapping ≡ unlinked (shown_parts all (flat_map leaves_in parts) s.mapping)
unfolding parts_streamed shown_parts
alike all [] s h = refl
alike all (part ∷ parts) s h =
    let later : List PartContent = flat_map leaves_in parts in
    let now : Mapping = shown_parts (part_provided (part_defined s.defined part) part) (leaves_in part) s.mapping in
    let whole : Mapping = shown_parts all (leaves_in part) s.mapping in
    alike all parts (part_streamed part s) h.1
    ∙ links_behind all later now
    ∙ ap (λ (n : Mapping). unlinked (shown_parts all later n)) (h.0 s.mapping)
    ∙ sym (links_behind all later whole)
    ∙ ap unlinked (sym (shown_joined all (leaves_in part) later s.mapping))

-- a text whose parts are shown alike is shown as the whole
pub alike_is_whole : AlikeIsWhole
unfolding streamed_sections printable_sections
alike_is_whole text h = ap (λ (m : Mapping). m.sections) (alike (definitions_of (parts_of text)) (parts_of text) nothing_streamed h)

-- ---- definitions in front

leaf_defines : (kind : Kind) (lines : List Remaining) (defined : Defined) → defines_nothing (block (record { kind = kind; apart = false; lines = lines })) ≡ true → leaf_defined kind defined lines ≡ defined
leaf_defines Nothing lines defined h = refl
leaf_defines Paragraph lines defined h = refl
leaf_defines (Heading level) lines defined h = refl
leaf_defines Indented lines defined h = refl
leaf_defines Fenced lines defined h = refl
leaf_defines Html lines defined h = refl
leaf_defines (Table columns) lines defined h = refl
leaf_defines Rule lines defined h = refl
leaf_defines Definitions lines defined h = let no : false ≡ true = h in absurd (cc)

part_defines : (part : PartContent) (defined : Defined) → defines_nothing part ≡ true → part_defined defined part ≡ defined
part_defines (begins container apart) defined h = refl
part_defines ends defined h = refl
part_defines (block leaf) defined h = leaf_defines leaf.kind leaf.lines defined h

-- no definitions among these
none_defined : (parts : List PartContent) (defined : Defined) → list_all defines_nothing parts ≡ true → parts_defined defined parts ≡ defined
unfolding parts_defined
none_defined [] defined h = refl
none_defined (part ∷ parts) defined h =
    let both = and_parts (defines_nothing part) (list_all defines_nothing parts) h in
    ap (λ (d : Defined). parts_defined d parts) (part_defines part defined both.0) ∙ none_defined parts defined both.1

all_known : (parts : List PartContent) (defined : Defined) → list_all defines_nothing parts ≡ true → NameDefined defined parts → AreKnown defined defined parts
all_known [] defined h named = tt
all_known (part ∷ parts) defined h named =
    let both = and_parts (defines_nothing part) (list_all defines_nothing parts) h in
    let same = part_defines part defined both.0 in
    (λ m. ap (λ (d : Defined). shown_parts d (leaves_in part) m) (named.0 ∙ same), subst (λ (d : Defined). AreKnown defined d parts) (sym same) (all_known parts defined both.1 (subst (λ (d : Defined). NameDefined d parts) same named.1)))

-- where nothing defines, parts are shown by the same definitions
pub all_provided : (parts : List PartContent) (s : Streamed) → list_all defines_nothing parts ≡ true → (parts_streamed parts s).mapping ≡ parts_provided s.defined parts s.mapping
unfolding parts_streamed parts_provided
all_provided [] s h = refl
all_provided (part ∷ parts) s h =
    let both = and_parts (defines_nothing part) (list_all defines_nothing parts) h in
    ap (λ (d : Defined). (parts_streamed parts (shown_by d part s.mapping)).mapping) (part_defines part s.defined both.0)
    ∙ all_provided parts (shown_by s.defined part s.mapping) both.1

-- parts that ask for nothing, and then parts of which all is known
in_front : (front others : List PartContent) (all defined : Defined) → list_all asks_nothing front ≡ true → AreKnown all (parts_defined defined front) others → AreKnown all defined (front ++ others)
unfolding parts_defined
in_front [] others all defined h later = later
in_front (part ∷ front) others all defined h later =
    let both = and_parts (asks_nothing part) (list_all asks_nothing front) h in
    (without_words part (part_provided (part_defined defined part) part) all both.0, in_front front others all (part_defined defined part) both.1 later)

defined_joined : (front others : List PartContent) (defined : Defined) → parts_defined defined (front ++ others) ≡ parts_defined (parts_defined defined front) others
unfolding parts_defined
defined_joined [] others defined = refl
defined_joined (part ∷ front) others defined = defined_joined front others (part_defined defined part)

named_behind : (front others : List PartContent) (defined : Defined) → NameDefined defined (front ++ others) → NameDefined (parts_defined defined front) others
unfolding parts_defined
named_behind [] others defined h = h
named_behind (part ∷ front) others defined h = named_behind front others (part_defined defined part) h.1

known_behind : (front others : List PartContent) → list_all asks_nothing front ≡ true → list_all defines_nothing others ≡ true → NameDefined nothing_defined (front ++ others) → AreKnown (definitions_of (front ++ others)) nothing_defined (front ++ others)
known_behind front others asks defines named =
    let before = parts_defined nothing_defined front in
    let same : definitions_of (front ++ others) ≡ before = defined_joined front others nothing_defined ∙ none_defined others before defines in
    subst (λ (d : Defined). AreKnown d nothing_defined (front ++ others)) (sym same) (in_front front others before nothing_defined asks (all_known others before defines (named_behind front others nothing_defined named)))

-- a text without definitions is shown as the whole, where its words name none
pub undefined_is_whole : UndefinedIsWhole
undefined_is_whole text h named = known_is_whole text (known_behind [] (parts_of text) refl h named)

-- so is a text whose definitions stand in front of all words
pub in_front_is_whole : DefinedInFrontIsWhole
in_front_is_whole text front others joins asks defines named =
    known_is_whole text (subst (λ (ps : List PartContent). AreKnown (definitions_of ps) nothing_defined ps) (sym joins) (known_behind front others asks defines (subst (λ (ps : List PartContent). NameDefined nothing_defined ps) joins named)))
