-- The parts of a text, laid out one after another.
use Rattle.std.proofs.Common.{◌≡◌, ℕ, ◌<◌, ◌≤◌, ◌⊎◌, Bool, true, false, not, ◌&&◌, ◌||◌, List, [], ◌∷◌, ◌++◌, map, length, Option, if◌then◌else◌, refl, ap, sym, ◌∙◌, subst, arith, append_assoc}
use Rattle.std.specs.List.{AllByRecursion}
use Rattle.std.proofs.lemmas.List.{append-nil, length-append}
use Rattle.mad_md.specs.Lines.{LineContent, normal, table_row, table_rule, horizontal_rule}
use Rattle.mad_measure.proofs.AllLemmas.{all_push}
use Rattle.mad_format.specs.CompositeWraps.{IsCompositeWrap}
use Rattle.mad_blocks.specs.Fronts.{IsFrontLayout}
use Rattle.mad_blocks.specs.Layouts.{AreRead, IsLayoutAt}
use Rattle.mad_format.specs.FmtLines.{IsLineRead}
use Rattle.mad_blocks.specs.PartCursors.{NoneNext, LaidPart}
use Rattle.mad_blocks.specs.LayoutParts.{Part, parts_of, table_width, wrap_width, IsBlockAt, IsLineAt, ArePartsAt}
use Rattle.mad_blocks.specs.Tables.{IsTableLaidOutBy, columns_count}
use Rattle.mad_blocks.specs.TextParts.{apart, is_code, is_table, stand_together, in_front, text_parts}
use Rattle.mad_format.specs.Wraps.{IsMeasured}
use Rattle.mad_format.specs.LineRules.{LineRules}
use Rattle.mad_format.specs.declared.composite.FmtComposite.{FmtComposite}
use Rattle.mad_format.specs.declared.line.FmtLine.{FmtLine}
use Rattle.mad_format.specs.declared.line.FmtLine.TheVariants.{Normal}
use Rattle.mad_blocks.proofs.LayoutJoins.{apart_front, apart_parts, begins, both_read, by_bool, is_as_read, layouts_joined}
use Rattle.mad_blocks.proofs.LayoutLemmas.{block_laid, table_laid}
use Rattle.mad_format.proofs.ReadLemmas.{line_measured}
use Rattle.mad_blocks.proofs.PartRuns.{AllTableLines, AllCode, table_parts, table_in_front, block_parts, block_in_front, alone_first}

-- ---- lines that a test tells

-- lines that the test tells are in one part, and no other line is in a part with them
record TellsParts (test : LineContent → Bool) : Type 0 where
  both : (c d : LineContent) → test c ≡ true → test d ≡ true → stand_together c d ≡ true
  other : (c d : LineContent) → test c ≡ true → test d ≡ false → stand_together c d ≡ false

-- a line of code is none of a table
pub code_no_table : (c : LineContent) → is_code c ≡ true → is_table c ≡ false
code_no_table (normal said) h = refl
code_no_table _ h = absurd (cc)

-- a line of a table is none of code
pub table_no_code : (c : LineContent) → is_table c ≡ true → is_code c ≡ false
table_no_code (normal said) h = absurd (cc)
table_no_code (table_row cells) h = refl
table_no_code (table_rule aligns) h = refl
table_no_code horizontal_rule h = absurd (cc)

or_false : (b : Bool) → (b || false) ≡ b
or_false true = refl
or_false false = refl

code_together : (c d : LineContent) (b : Bool) → is_code c ≡ true → is_code d ≡ b → stand_together c d ≡ b
code_together c d b h k =
    ap (λ x. (x && is_code d) || (is_table c && is_table d)) h ∙ ap (λ x. x || (is_table c && is_table d)) k ∙ ap (λ x. b || (x && is_table d)) (code_no_table c h) ∙ or_false b

table_together : (c d : LineContent) (b : Bool) → is_table c ≡ true → is_table d ≡ b → stand_together c d ≡ b
table_together c d b h k = ap (λ x. (x && is_code d) || (is_table c && is_table d)) (table_no_code c h) ∙ ap (λ x. x && is_table d) h ∙ k

code_tells : TellsParts is_code
code_tells = record { both = λ c d h k. code_together c d true h k; other = λ c d h k. code_together c d false h k }

table_tells : TellsParts is_table
table_tells = record { both = λ c d h k. table_together c d true h k; other = λ c d h k. table_together c d false h k }

abbrev AllTold : (LineContent → Bool) → List LineContent → Type 0
AllTold test cs = AllByRecursion (λ c. test c ≡ true) cs

one_part : (test : LineContent → Bool) (c : LineContent) (cs : List LineContent) → TellsParts test → test c ≡ true → AllTold test cs → text_parts (c ∷ cs) ≡ (c ∷ cs) ∷ []
one_part test c [] tells h all = refl
one_part test c (d ∷ ds) tells h all =
    ap (in_front c) (one_part test d ds tells all.0 all.1) ∙ ap (λ (b : Bool). if b then (c ∷ d ∷ ds) ∷ [] else (c ∷ []) ∷ (d ∷ ds) ∷ []) (tells.both c d h all.0)

told_apart : (test : LineContent → Bool) (c : LineContent) (cs after : List LineContent) → TellsParts test → test c ≡ true → AllTold test cs → NoneNext test after → apart (c ∷ cs) after ≡ true
told_apart test c [] [] tells h all none = refl
told_apart test c [] (d ∷ ds) tells h all none = ap not (tells.other c d h none)
told_apart test c (d ∷ ds) after tells h all none = told_apart test d ds after tells all.0 all.1 none

-- any other line is a part by itself
pub single_apart : (c : LineContent) (after : List LineContent) → is_code c ≡ false → is_table c ≡ false → apart (c ∷ []) after ≡ true
single_apart c [] h k = refl
single_apart c (d ∷ ds) h k = ap not (ap (λ x. (x && is_code d) || (is_table c && is_table d)) h ∙ ap (λ x. x && is_table d) k)

-- ---- one part

part_laid : (skin : LineRules) (width : Option ℕ) (first : LineContent) (others before after : List LineContent) (lines new own : List FmtLine) → before ≡ others ++ after → text_parts (first ∷ others) ≡ (first ∷ others) ∷ []
    → apart (first ∷ others) after ≡ true → new ≡ lines ++ own → IsLayoutAt skin width (first ∷ others) own → LaidPart skin width (first ∷ before) lines after new
part_laid skin width first others before after lines new own joins one cut added layout = record {
  first = first;
  others = others;
  joins = ap (λ cs. first ∷ cs) joins;
  is_part = ap (λ cs. text_parts (first ∷ cs)) joins ∙ apart_parts (first ∷ others) after cut ∙ ap (λ (ps : List (List LineContent)). ps ++ text_parts after) one;
  own = own;
  added = added;
  layout = layout;
}

-- a line that is neither is laid out as a part
pub single_laid : (skin : LineRules) (width : Option ℕ) (c : LineContent) (after : List LineContent) (l : FmtLine) (lines new own : List FmtLine) → is_code c ≡ false → is_table c ≡ false → IsLineRead skin c l
    → new ≡ lines ++ own → IsLineAt IsCompositeWrap skin (wrap_width width) l own → LaidPart skin width (c ∷ after) lines after new
single_laid skin width c after l lines new own no_code no_table read added becomes =
    let is = is_as_read skin c l read in
    part_laid skin width c [] after after lines new own refl refl (single_apart c after no_code no_table) added
    (record {
      read = l ∷ [];
      reads = (read, tt);
      laid = subst (λ (ps : List Part). ArePartsAt IsCompositeWrap skin (table_width width) (wrap_width width) ps own) (sym (alone_first l [] (is.0 ∙ no_code) (is.1 ∙ no_table)))
          (own, [], sym (append-nil own), (own, [], sym (append-nil own), becomes, refl), refl);
    })

-- ---- a run of lines that are one part

-- The lines that were read are the first and those after it so far, and the test tells all of these.
pub record RunSoFar (test : LineContent → Bool) (skin : LineRules) (first : LineContent) (before left : List LineContent) (read : List FmtLine) : Type 0 where
  pub others : List LineContent
  pub joins : before ≡ others ++ left
  pub told : AllByRecursion (λ c. test c ≡ true) others
  pub reads : AreRead skin (first ∷ others) read

-- the first line of a run was read
pub run_start : (test : LineContent → Bool) (skin : LineRules) (first : LineContent) (before : List LineContent) (l : FmtLine) (read : List FmtLine) → IsLineRead skin first l → read ≡ l ∷ [] → RunSoFar test skin first before before read
run_start test skin first before l read is pushed = record { others = []; joins = refl; told = tt; reads = subst (AreRead skin (first ∷ [])) (sym pushed) (is, tt) }

-- one line more was read, which the test tells
pub run_more : (test : LineContent → Bool) (skin : LineRules) (first : LineContent) (before left after : List LineContent) (c : LineContent) (l : FmtLine) (read new : List FmtLine) → RunSoFar test skin first before left read
    → left ≡ c ∷ after → test c ≡ true → IsLineRead skin c l → new ≡ read ++ l ∷ [] → RunSoFar test skin first before after new
run_more test skin first before left after c l read new h next on is pushed = record {
  others = h.others ++ c ∷ [];
  joins = h.joins ∙ ap (λ (cs : List LineContent). h.others ++ cs) next ∙ sym (append_assoc h.others (c ∷ []) after);
  told = all_push (λ d. test d ≡ true) h.others c h.told on;
  reads = subst (AreRead skin (first ∷ (h.others ++ c ∷ []))) (sym pushed) (both_read skin (first ∷ h.others) (c ∷ []) read (l ∷ []) h.reads (is, tt));
}

-- the cached lengths of a block that was read are right
pub block_measured : (skin : LineRules) (cs : List LineContent) (ls : List FmtComposite) → AreRead skin cs (map Normal ls) → AllByRecursion (IsMeasured skin) ls
block_measured skin [] [] h = tt
block_measured skin (c ∷ cs) (l ∷ ls) h = (line_measured skin c (Normal l) h.0, block_measured skin cs ls h.1)
block_measured skin _ _ h = absurd h

tables_read : (skin : LineRules) (cs : List LineContent) (ls : List FmtLine) → AllTold is_table cs → AreRead skin cs ls → AllTableLines ls
tables_read skin [] [] all h = tt
tables_read skin (c ∷ cs) (l ∷ ls) all h = ((is_as_read skin c l h.0).1 ∙ all.0, tables_read skin cs ls all.1 h.1)
tables_read skin _ _ all h = absurd h

code_read : (skin : LineRules) (cs : List LineContent) (ls : List FmtComposite) → AllTold is_code cs → AreRead skin cs (map Normal ls) → AllCode ls
code_read skin [] [] all h = tt
code_read skin (c ∷ cs) (l ∷ ls) all h = ((is_as_read skin c (Normal l) h.0).0 ∙ all.0, code_read skin cs ls all.1 h.1)
code_read skin _ _ all h = absurd h

-- a run of code that is laid out as a block is the first part of what was left
pub block_part : (skin : LineRules) (width : Option ℕ) (first : LineContent) (before left : List LineContent) (block : List FmtComposite) (lines new own : List FmtLine) → is_code first ≡ true → RunSoFar is_code skin first before left (map Normal block)
    → NoneNext is_code left → new ≡ lines ++ own → IsBlockAt skin width block own → LaidPart skin width (first ∷ before) lines left new
block_part skin width first before left block lines new own on h none added becomes =
    let kinds : AllCode block = code_read skin (first ∷ h.others) block (on, h.told) h.reads in
    let parts : parts_of (map Normal block) ≡ block_parts block = ap parts_of (sym (append-nil (map Normal block))) ∙ block_in_front block [] kinds tt ∙ append-nil (block_parts block) in
    part_laid skin width first h.others before left lines new own h.joins (one_part is_code first h.others code_tells on h.told) (told_apart is_code first h.others left code_tells on h.told none) added
    (record {
      read = map Normal block;
      reads = h.reads;
      laid = subst (λ (ps : List Part). ArePartsAt IsCompositeWrap skin (table_width width) (wrap_width width) ps own) (sym parts) (block_laid skin (table_width width) (wrap_width width) block own becomes);
    })

-- a run of lines of a table that is laid out is the first part of what was left
pub table_part : (skin : LineRules) (width : Option ℕ) (first : LineContent) (before left : List LineContent) (table lines new own : List FmtLine) → is_table first ≡ true → RunSoFar is_table skin first before left table
    → NoneNext is_table left → new ≡ lines ++ own → IsTableLaidOutBy IsCompositeWrap skin (columns_count table) (table_width width) table own → LaidPart skin width (first ∷ before) lines left new
table_part skin width first before left table lines new own on h none added becomes =
    let kinds : AllTableLines table = tables_read skin (first ∷ h.others) table (on, h.told) h.reads in
    let parts : parts_of table ≡ table_parts table = ap parts_of (sym (append-nil table)) ∙ table_in_front table [] kinds tt ∙ append-nil (table_parts table) in
    part_laid skin width first h.others before left lines new own h.joins (one_part is_table first h.others table_tells on h.told) (told_apart is_table first h.others left table_tells on h.told none) added
    (record {
      read = table;
      reads = h.reads;
      laid = subst (λ (ps : List Part). ArePartsAt IsCompositeWrap skin (table_width width) (wrap_width width) ps own) (sym parts) (table_laid skin (table_width width) (wrap_width width) table own becomes);
    })

-- ---- all parts so far

-- The lines are a layout of the text up to what is left, which begins with a part of its own.
pub record LaidSoFar (skin : LineRules) (width : Option ℕ) (all left : List LineContent) (lines : List FmtLine) : Type 0 where
  pub front : List LineContent
  pub joins : all ≡ front ++ left
  pub whole : apart front left ≡ true
  pub layout : IsLayoutAt skin width front lines

-- no part is laid out yet
pub laid_none : (skin : LineRules) (width : Option ℕ) (all : List LineContent) → LaidSoFar skin width all all []
laid_none skin width all = record { front = []; joins = refl; whole = refl; layout = record { read = []; reads = tt; laid = refl } }

-- what follows the first part of a text is no part with it
part_apart : (part after : List LineContent) → text_parts (part ++ after) ≡ part ∷ text_parts after → apart part after ≡ true
part_apart [] after h = refl
part_apart (c ∷ []) [] h = refl
part_apart (c ∷ []) (d ∷ ds) h =
    let (cs, ps, is) = begins d (text_parts ds) in
    by_bool (λ b. stand_together c d ≡ b → not (stand_together c d) ≡ true) (stand_together c d)
    (λ on e. let joined : text_parts (c ∷ d ∷ ds) ≡ (c ∷ d ∷ cs) ∷ ps = ap (in_front c) is ∙ ap (λ (b : Bool). if b then (c ∷ d ∷ cs) ∷ ps else (c ∷ []) ∷ (d ∷ cs) ∷ ps) on in absurd (cc))
    (λ off e. ap not off) refl
part_apart (c ∷ d ∷ cs) after h =
    let (ds, ps, is) = begins d (text_parts (cs ++ after)) in
    by_bool (λ b. stand_together c d ≡ b → apart (d ∷ cs) after ≡ true) (stand_together c d)
    (λ on e. let joined : text_parts (c ∷ d ∷ (cs ++ after)) ≡ (c ∷ d ∷ ds) ∷ ps = ap (in_front c) is ∙ ap (λ (b : Bool). if b then (c ∷ d ∷ ds) ∷ ps else (c ∷ []) ∷ (d ∷ ds) ∷ ps) on in
    part_apart (d ∷ cs) after (cc))
    (λ off e. let cut : text_parts (c ∷ d ∷ (cs ++ after)) ≡ (c ∷ []) ∷ (d ∷ ds) ∷ ps = ap (in_front c) is ∙ ap (λ (b : Bool). if b then (c ∷ d ∷ ds) ∷ ps else (c ∷ []) ∷ (d ∷ ds) ∷ ps) off in absurd (cc))
    refl

-- the last of the lines in front tells it
pub apart_after : (front part : List LineContent) (c : LineContent) (after : List LineContent) → apart (c ∷ part) after ≡ true → apart (front ++ c ∷ part) after ≡ true
apart_after [] part c after h = h
apart_after (b ∷ []) part c after h = h
apart_after (b ∷ d ∷ cs) part c after h = apart_after (d ∷ cs) part c after h

-- one part more
pub laid_more : (skin : LineRules) (width : Option ℕ) (all left after : List LineContent) (done lines new : List FmtLine) → LaidSoFar skin width all left done → (p : LaidPart skin width left lines after new) → LaidSoFar skin width all after (done ++ p.own)
laid_more skin width all left after done lines new h p =
    let part : List LineContent = p.first ∷ p.others in
    let cut : apart part after ≡ true = part_apart part after (ap text_parts (sym p.joins) ∙ p.is_part) in
    record {
      front = h.front ++ part;
      joins = h.joins ∙ ap (λ (cs : List LineContent). h.front ++ cs) p.joins ∙ sym (append_assoc h.front part after);
      whole = apart_after h.front p.others p.first after cut;
      layout = layouts_joined skin width h.front part done p.own (apart_front h.front part after (subst (λ (cs : List LineContent). apart h.front cs ≡ true) p.joins h.whole)) h.layout p.layout;
    }

-- so where the lines of all parts are kept together
pub laid_on : (skin : LineRules) (width : Option ℕ) (all left after : List LineContent) (lines new : List FmtLine) → LaidSoFar skin width all left lines → LaidPart skin width left lines after new → LaidSoFar skin width all after new
laid_on skin width all left after lines new h p = subst (LaidSoFar skin width all after) (sym p.added) (laid_more skin width all left after lines lines new h p)

-- after a part fewer lines are left
pub laid_shorter : (skin : LineRules) (width : Option ℕ) (left after : List LineContent) (lines new : List FmtLine) → LaidPart skin width left lines after new → length after < length left
laid_shorter skin width left after lines new p = omega (arith, ap length p.joins, length-append p.others after)

-- where none are left, the lines are a layout of the text
pub laid_whole : (skin : LineRules) (width : Option ℕ) (all left : List LineContent) (lines new : List FmtLine) → LaidSoFar skin width all left lines → left ≡ [] → new ≡ lines → IsLayoutAt skin width all new
laid_whole skin width all left lines new h none same =
    let front : h.front ≡ all = sym (h.joins ∙ ap (λ (cs : List LineContent). h.front ++ cs) none ∙ append-nil h.front) in
    subst (IsLayoutAt skin width all) (sym same) (subst (λ (cs : List LineContent). IsLayoutAt skin width cs lines) front h.layout)

-- where none are left, or as many rows are there as are asked for, they are a layout of a front
pub laid_front : (skin : LineRules) (width : Option ℕ) (rows : ℕ) (all left : List LineContent) (lines : List FmtLine) → LaidSoFar skin width all left lines → (left ≡ []) ⊎ (rows ≤ length lines) → IsFrontLayout skin width rows all lines
laid_front skin width rows all left lines h stop = record {
  front = h.front;
  rest = left;
  joins = h.joins;
  parts = ap text_parts h.joins ∙ apart_parts h.front left h.whole;
  layout = h.layout;
  enough = stop;
}
