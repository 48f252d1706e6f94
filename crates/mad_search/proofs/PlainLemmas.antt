-- Lines as sections without gutters, part by part.
use Rattle.std.proofs.Common.{◌≡◌, ℕ, zero, suc, ◌+◌, Bool, true, false, not, List, [], ◌∷◌, ◌++◌, map, length, get_or, if◌then◌else◌, arith, refl, ap, sym, ◌∙◌, subst, append_assoc, append-nil}
use Rattle.std.proofs.lemmas.List.{map-append}
use Rattle.mad_md.specs.Lines.{LineContent, content_of}
use Rattle.mad_md.specs.declared.line.Line.{Line}
use Rattle.mad_blocks.specs.TextParts.{apart, in_front, stand_together, text_parts}
use Rattle.mad_blocks.proofs.LayoutJoins.{apart_parts}
use Rattle.mad_sections.specs.Sections.{SectionContent}
use Rattle.mad_search.specs.PagedTexts.{part_sections, plain_section, plain_sections}

-- each of these lines is in one part with the next
abbrev pub Joined : List LineContent → Type 0
Joined [] = Unit {0}
Joined (c ∷ []) = Unit {0}
Joined (c ∷ d ∷ cs) = (stand_together c d ≡ true) × Joined (d ∷ cs)

-- lines of one part are one
joined_part : (c : LineContent) (cs : List LineContent) → Joined (c ∷ cs) → text_parts (c ∷ cs) ≡ (c ∷ cs) ∷ []
joined_part c [] h = refl
joined_part c (d ∷ ds) h =
    ap (in_front c) (joined_part d ds h.1) ∙ ap (λ (b : Bool). if b then (c ∷ d ∷ ds) ∷ [] else (c ∷ []) ∷ (d ∷ ds) ∷ []) h.0

on_of : (b : Bool) → not b ≡ false → b ≡ true
on_of true h = refl
on_of false h = absurd (cc)

joined_more : (part : List LineContent) (l : LineContent) → Joined part → apart part (l ∷ []) ≡ false → Joined (part ++ l ∷ [])
joined_more [] l h with_it = absurd (cc)
joined_more (c ∷ []) l h with_it = (on_of (stand_together c l) with_it, tt)
joined_more (c ∷ d ∷ cs) l h with_it = (h.0, joined_more (d ∷ cs) l h.1 with_it)

apart_first : (part : List LineContent) (l : LineContent) (rest : List LineContent) → apart part (l ∷ rest) ≡ apart part (l ∷ [])
apart_first [] l rest = refl
apart_first (c ∷ []) l rest = refl
apart_first (c ∷ d ∷ cs) l rest = apart_first (d ∷ cs) l rest

-- whether a line is in another part than those before it, the last of these tells
pub apart_tells : (xs : List Line) (last : Line) (l : LineContent) (k : ℕ) → k + 1 ≡ length xs → last ≡ get_or xs k last → not (stand_together (content_of last) l) ≡ apart (map content_of xs) (l ∷ [])
apart_tells [] last l k at is = absurd (omega (arith, at))
apart_tells (x ∷ []) last l zero at is = ap (λ (e : Line). not (stand_together (content_of e) l)) is
apart_tells (x ∷ []) last l (suc k) at is = absurd (omega (arith, at))
apart_tells (x ∷ y ∷ ys) last l zero at is = absurd (omega (arith, at))
apart_tells (x ∷ y ∷ ys) last l (suc k) at is = apart_tells (y ∷ ys) last l k (omega (arith, at)) is

-- a line more
pub content_more : (part new : List Line) (line : Line) → new ≡ part ++ line ∷ [] → map content_of new ≡ map content_of part ++ content_of line ∷ []
content_more part new line pushed = ap (map content_of) pushed ∙ map-append content_of part (line ∷ [])

-- these sections, the part that has begun, and what is left are all
pub record PlainSoFar (all left part : List LineContent) (sections : List SectionContent) : Type 0 where
  pub joined : Joined part
  pub are : sections ++ plain_sections (part ++ left) ≡ plain_sections all

-- nothing has begun
pub nothing_plain : (all : List LineContent) → PlainSoFar all all [] []
nothing_plain all = record { joined = tt; are = refl }

-- the part goes on
pub plain_on : (all left part more : List LineContent) (l : LineContent) (sections : List SectionContent) → PlainSoFar all (l ∷ left) part sections → apart part (l ∷ []) ≡ false → more ≡ part ++ l ∷ [] → PlainSoFar all left more sections
plain_on all left part more l sections h with_it pushed =
    subst (λ (p : List LineContent). PlainSoFar all left p sections) (sym pushed)
    (record { joined = joined_more part l h.joined with_it; are = ap (λ (cs : List LineContent). sections ++ plain_sections cs) (append_assoc part (l ∷ []) left) ∙ h.are })

sections_of : (part : List LineContent) → Joined part → plain_sections part ≡ part_sections part
sections_of [] h = refl
sections_of (c ∷ cs) h = ap (map plain_section) (joined_part c cs h)

map_both : (xs ys : List (List LineContent)) → map plain_section (xs ++ ys) ≡ map plain_section xs ++ map plain_section ys
map_both [] ys = refl
map_both (x ∷ xs) ys = ap (λ (l : List SectionContent). plain_section x ∷ l) (map_both xs ys)

-- another part begins
pub plain_apart : (all left part : List LineContent) (l : LineContent) (sections new : List SectionContent) → PlainSoFar all (l ∷ left) part sections → apart part (l ∷ []) ≡ true → new ≡ sections ++ part_sections part → PlainSoFar all left (l ∷ []) new
plain_apart all left part l sections new h off pushed =
    let cut : plain_sections (part ++ l ∷ left) ≡ part_sections part ++ plain_sections (l ∷ left) =
    ap (map plain_section) (apart_parts part (l ∷ left) (apart_first part l left ∙ off)) ∙ map_both (text_parts part) (text_parts (l ∷ left)) ∙ ap (λ (s : List SectionContent). s ++ plain_sections (l ∷ left)) (sections_of part h.joined) in
    record {
      joined = tt;
      are = ap (λ (s : List SectionContent). s ++ plain_sections (l ∷ left)) pushed ∙ append_assoc sections (part_sections part) (plain_sections (l ∷ left)) ∙ ap (λ (s : List SectionContent). sections ++ s) (sym cut) ∙ h.are;
    }

-- where no line is left, the part that has begun is the last
pub plain_whole : (all left part : List LineContent) (sections new : List SectionContent) → PlainSoFar all left part sections → left ≡ [] → new ≡ sections ++ part_sections part → new ≡ plain_sections all
plain_whole all left part sections new h none pushed =
    pushed ∙ ap (λ (s : List SectionContent). sections ++ s) (sym (sections_of part h.joined)) ∙ ap (λ (cs : List LineContent). sections ++ plain_sections cs) (sym (ap (λ (cs : List LineContent). part ++ cs) none ∙ append-nil part)) ∙ h.are
