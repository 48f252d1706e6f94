use Rattle.std.proofs.Common.{refl}
use Rattle.mad_page_json.proofs.LoopLemmas.{heads}
use Rattle.mad_page_json.proofs.parts.char_parts.Goals as goal

pub returns : goal.returns
returns c =
    (heads _ _ _ _ c.under_key.ensures (heads _ _ _ _ c.under_key-2.ensures (heads _ _ _ _ c.under_key-3.ensures (heads _ _ _ _ c.under_key-4.ensures (heads _ _ _ _ c.under_key-5.ensures (heads _ _ _ _ c.under_key-6.ensures (heads _ _ _ _ c.under_key-7.ensures (heads _ _ _ _ c.under_key-8.ensures (heads _ _ _ _ c.under_key-9.ensures (heads _ _ _ _ c.under_key-10.ensures refl))))))))))
