use Rattle.std.proofs.Common.{List, sym, ◌∙◌, subst}
use Rattle.std.proofs.lemmas.Result.{IfOk-weaker}
use Rattle.mad_measure.specs.Tokens.{AreTokensOf}
use Rattle.mad_measure.specs.TokensLeft.{AreTokensLeft}
use Rattle.mad_measure.specs.declared.tokens.Token.{Token}
use Rattle.mad_wrap.specs.LeastWords.{IsWrapBy}
use Rattle.mad_wrap.specs.WrapLines.{compounds_of}
use Rattle.mad_wrap.proofs.CutLemmas.{cut_wrap, cut_counted}
use Rattle.mad_wrap.proofs.WordWraps.{words_wrap, words_counted}
use Rattle.mad_wrap.proofs.WrapLemmas.{placed_wrap, placed_counted}
use Rattle.mad_wrap.proofs.wrapping.wrap_compounds.Goals as goal

pub returns-then-room-clause-wrapped : goal.returns-then-room-clause-wrapped
returns-then-room-clause-wrapped c =
    IfOk-weaker c.place_words.result _ _
    (λ lines h. subst (λ b. IsWrapBy b c.args.room c.args.compounds.now (compounds_of lines.items)) (sym c.if-room.true) (words_wrap c.args.room c.args.compounds.now h.0 lines.items c.requires.wider h.1 h.2)) c.place_words.ensures

pub returns-then-room-clause-counted : goal.returns-then-room-clause-counted
returns-then-room-clause-counted c = IfOk-weaker c.place_words.result _ _ (λ lines h. words_counted c.args.room c.args.compounds.now h.0 lines.items h.1 h.2) c.place_words.ensures

pub returns-in-Some-clause-wrapped : goal.returns-in-Some-clause-wrapped
returns-in-Some-clause-wrapped c =
    IfOk-weaker c.cut_lines.result _ _
    (λ lines h. subst (λ b. IsWrapBy b c.args.room c.args.compounds.now (compounds_of lines.items)) (sym c.if-room.false)
    (cut_wrap c.args.room c.args.compounds.now _ _ lines.items c.requires.wider (sym c.clean_cut.ensures.value ∙ c.in-Some.is) c.in-Some.ensures.texts h)) c.cut_lines.ensures

pub returns-in-Some-clause-counted : goal.returns-in-Some-clause-counted
returns-in-Some-clause-counted c = IfOk-weaker c.cut_lines.result _ _ (λ lines h. cut_counted _ _ lines.items h) c.cut_lines.ensures

pub returns-in-None-clause-wrapped : goal.returns-in-None-clause-wrapped
returns-in-None-clause-wrapped c =
    let tokens = λ (ts : List Token) (left : AreTokensLeft c.token_iter.result ts). subst (λ n. AreTokensOf n c.args.compounds.now ts) c.token_limit.ensures (c.token_iter.ensures.tokens ts left) in
    IfOk-weaker c.place.result _ _
    (λ lines h. subst (λ b. IsWrapBy b c.args.room c.args.compounds.now (compounds_of lines.items)) (sym c.if-room.false)
    (placed_wrap c.args.room c.args.compounds.now h.0 lines.items c.requires.wider (sym c.clean_cut.ensures.value ∙ c.in-None.is) (tokens h.0 h.1) h.2)) c.place.ensures

pub returns-in-None-clause-counted : goal.returns-in-None-clause-counted
returns-in-None-clause-counted c =
    let tokens = λ (ts : List Token) (left : AreTokensLeft c.token_iter.result ts). subst (λ n. AreTokensOf n c.args.compounds.now ts) c.token_limit.ensures (c.token_iter.ensures.tokens ts left) in
    IfOk-weaker c.place.result _ _ (λ lines h. placed_counted c.args.room c.args.compounds.now h.0 lines.items (tokens h.0 h.1) h.2) c.place.ensures
