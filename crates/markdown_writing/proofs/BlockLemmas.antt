-- Blocks of the code as a page.
use mathlib.Core.Former.{Count}
use Rattle.std.proofs.Common.{◌≡◌, Bor, ℕ, ◌+◌, ◌<◌, Bool, true, List, ◌∷◌, ◌++◌, length, drop, refl, sym, ap, ◌∙◌, append_assoc}
use Rattle.std.proofs.lemmas.List.{drop_more}
use Rattle.std.proofs.Math.ListN.{get_or}
use Rattle.markdown_writing.specs.declared.blocks.PageBlock.{PageBlock, Heading, Paragraph, Code, Break, Table, Quote', Item', Row_of-PageBlock, end_of-PageBlock, more_of-PageBlock, items-the_row-PageBlock, items_hidden-the_row-PageBlock-0}
use Rattle.markdown_writing.specs.declared.blocks.PageBlock.TheVariants.{Item, Quote}
use Rattle.markdown_writing.specs.Pages.{Page, above, first_block, gap, held_page, markdown_from, markdown_of, no_more, page_of}
use Rattle.markdown_writing.specs.Fronts.{itemized, quoted}

held_items : (n : _) (row : Row_of-PageBlock n) → held_page row ≡ page_of (items-the_row-PageBlock n row)
held_items n end_of-PageBlock = refl
held_items n (more_of-PageBlock block blocks) = ap (above block) (held_items _ blocks)

-- the blocks of a quote or an item
abbrev row_in : PageBlock → (n : Count) × Row_of-PageBlock n
row_in (Quote' place shape row) = (_, row)
row_in (Item' place shape row) = (_, row)
row_in _ = (_, end_of-PageBlock)

-- the text of a quote is that of the blocks in it
pub quote_text : (blocks : Bor (List PageBlock)) → first_block (above (Quote blocks) no_more) ≡ quoted (markdown_of (page_of blocks.now))
quote_text blocks =
    let row = row_in (Quote blocks) in
    ap (λ (p : Page). quoted (markdown_of p)) (held_items row.0 row.1 ∙ ap page_of (items_hidden-the_row-PageBlock-0 blocks.now))

-- so is that of an item
pub item_text : (blocks : Bor (List PageBlock)) → first_block (above (Item blocks) no_more) ≡ itemized (markdown_of (page_of blocks.now))
item_text blocks =
    let row = row_in (Item blocks) in
    ap (λ (p : Page). itemized (markdown_of p)) (held_items row.0 row.1 ∙ ap page_of (items_hidden-the_row-PageBlock-0 blocks.now))

-- the first block, and then others
block_then : (some : Bool) (block : PageBlock) (blocks : List PageBlock) → markdown_from some (page_of (block ∷ blocks)) ≡ gap some ++ (first_block (above block no_more) ++ markdown_from true (page_of blocks))
block_then some (Heading level phrases) blocks = refl
block_then some (Paragraph lines) blocks = refl
block_then some (Code language lines) blocks = refl
block_then some Break blocks = refl
block_then some (Table rule head rows) blocks = refl
block_then some (Quote' place shape held) blocks = refl
block_then some (Item' place shape held) blocks = refl

-- one more block is put
pub put_block : (whole now between next : List ℕ) (some : Bool) (blocks : List PageBlock) (at : ℕ) (block : PageBlock) → at < length blocks → block ≡ get_or blocks at block
    → between ≡ now ++ gap some → next ≡ between ++ first_block (above block no_more) → now ++ markdown_from some (page_of (drop at blocks)) ≡ whole
    → next ++ markdown_from true (page_of (drop (at + 1) blocks)) ≡ whole
put_block whole now between next some blocks at block less found gone put is =
    let rest = drop (at + 1) blocks in
    let others = markdown_from true (page_of rest) in
    ap (λ (bs : List ℕ). bs ++ others) (put ∙ ap (λ (bs : List ℕ). bs ++ first_block (above block no_more)) gone)
    ∙ append_assoc (now ++ gap some) (first_block (above block no_more)) others
    ∙ append_assoc now (gap some) (first_block (above block no_more) ++ others)
    ∙ ap (λ (bs : List ℕ). now ++ bs) (sym (block_then some block rest))
    ∙ ap (λ (b : PageBlock). now ++ markdown_from some (page_of (b ∷ rest))) found
    ∙ ap (λ (bs : List PageBlock). now ++ markdown_from some (page_of bs)) (sym (drop_more blocks at block less))
    ∙ is
