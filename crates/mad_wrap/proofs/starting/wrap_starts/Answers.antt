use Rattle.std.proofs.Common.{◌≡◌, ℕ, List, is_some, sym, ap, ◌∙◌, subst}
use Rattle.std.proofs.lemmas.Result.{IfOk-weaker}
use Rattle.mad_measure.specs.Tokens.{AreTokensOf}
use Rattle.mad_measure.specs.TokensLeft.{AreTokensLeft}
use Rattle.mad_measure.specs.declared.tokens.Token.{Token}
use Rattle.mad_measure.specs.declared.token_cursor.Tokens.{Tokens}
use Rattle.mad_md.specs.declared.compound.Compound.{Compound}
use Rattle.mad_wrap.specs.LeastWrap.{AreTokensIn}
use Rattle.mad_wrap.specs.Rooms.{token_limit}
use Rattle.mad_wrap.specs.declared.room.Room.{Room}
use Rattle.mad_wrap.proofs.PromisedStarts.{cut_starts_of, cut_fewest, placed_starts_of, placed_fewest, cut_checked, placed_checked, checked_bound}
use Rattle.mad_wrap.proofs.CutLemmas.{cut_has_room}
use Rattle.mad_wrap.proofs.WrapLemmas.{one_list}
use Rattle.mad_wrap.proofs.starting.wrap_starts.Goals as goal

-- what is left of an iterator that was made of the compounds are their tokens
read : (r : Room) (ps : List Compound) (s : Tokens) (max : ℕ) → max ≡ token_limit r → ((ts : List Token) → AreTokensLeft s ts → AreTokensOf max ps ts) → (ts : List Token) → AreTokensLeft s ts → AreTokensIn r ps ts
read r ps s max limit made ts left = subst (λ n. AreTokensOf n ps ts) limit (made ts left)

pub returns-in-Some-clause-tokenized : goal.returns-in-Some-clause-tokenized
returns-in-Some-clause-tokenized c =
    let on = ap is_some (sym c.clean_cut.ensures.value ∙ c.in-Some.is) in
    IfOk-weaker c.cut_starts.result _ _ (λ starts h. let all = h (cut_has_room c.args.room c.args.compounds.now on) in one_list c.args.room c.args.compounds.now all.0 (read c.args.room c.args.compounds.now _ _ c.token_limit.ensures c.token_iter-tokens.ensures.tokens all.0 all.1)) c.cut_starts.ensures

pub returns-in-Some-clause-checked : goal.returns-in-Some-clause-checked
returns-in-Some-clause-checked c =
    let on = ap is_some (sym c.clean_cut.ensures.value ∙ c.in-Some.is) in
    IfOk-weaker c.cut_starts.result _ _ (λ starts h. let all = h (cut_has_room c.args.room c.args.compounds.now on) in cut_checked c.args.room c.args.compounds.now all.0 starts.items (read c.args.room c.args.compounds.now _ _ c.token_limit.ensures c.token_iter-tokens.ensures.tokens all.0 all.1) all.2) c.cut_starts.ensures

pub returns-in-Some-clause-bound : goal.returns-in-Some-clause-bound
returns-in-Some-clause-bound c =
    let on = ap is_some (sym c.clean_cut.ensures.value ∙ c.in-Some.is) in
    IfOk-weaker c.cut_starts.result _ _ (λ starts h. let all = h (cut_has_room c.args.room c.args.compounds.now on) in checked_bound c.args.room c.args.compounds.now starts.items (cut_checked c.args.room c.args.compounds.now all.0 starts.items (read c.args.room c.args.compounds.now _ _ c.token_limit.ensures c.token_iter-tokens.ensures.tokens all.0 all.1) all.2)) c.cut_starts.ensures

pub returns-in-Some-clause-starts : goal.returns-in-Some-clause-starts
returns-in-Some-clause-starts c =
    let on = ap is_some (sym c.clean_cut.ensures.value ∙ c.in-Some.is) in
    IfOk-weaker c.cut_starts.result _ _ (λ starts h. let all = h (cut_has_room c.args.room c.args.compounds.now on) in cut_starts_of c.args.room c.args.compounds.now all.0 starts.items (read c.args.room c.args.compounds.now _ _ c.token_limit.ensures c.token_iter-tokens.ensures.tokens all.0 all.1) on all.2) c.cut_starts.ensures

pub returns-in-Some-clause-fewest : goal.returns-in-Some-clause-fewest
returns-in-Some-clause-fewest c space =
    let on = ap is_some (sym c.clean_cut.ensures.value ∙ c.in-Some.is) in
    IfOk-weaker c.cut_starts.result _ _ (λ starts h. let all = h (cut_has_room c.args.room c.args.compounds.now on) in cut_fewest c.args.room c.args.compounds.now all.0 starts.items (read c.args.room c.args.compounds.now _ _ c.token_limit.ensures c.token_iter-tokens.ensures.tokens all.0 all.1) on all.2 space) c.cut_starts.ensures

pub returns-in-None-clause-tokenized : goal.returns-in-None-clause-tokenized
returns-in-None-clause-tokenized c =
    IfOk-weaker c.line_starts.result _ _ (λ starts all. one_list c.args.room c.args.compounds.now all.0 (read c.args.room c.args.compounds.now _ _ c.token_limit.ensures c.token_iter-tokens.ensures.tokens all.0 all.1)) c.line_starts.ensures

pub returns-in-None-clause-checked : goal.returns-in-None-clause-checked
returns-in-None-clause-checked c =
    IfOk-weaker c.line_starts.result _ _ (λ starts all. placed_checked c.args.room c.args.compounds.now all.0 starts.items (read c.args.room c.args.compounds.now _ _ c.token_limit.ensures c.token_iter-tokens.ensures.tokens all.0 all.1) all.2) c.line_starts.ensures

pub returns-in-None-clause-bound : goal.returns-in-None-clause-bound
returns-in-None-clause-bound c =
    IfOk-weaker c.line_starts.result _ _ (λ starts all. checked_bound c.args.room c.args.compounds.now starts.items (placed_checked c.args.room c.args.compounds.now all.0 starts.items (read c.args.room c.args.compounds.now _ _ c.token_limit.ensures c.token_iter-tokens.ensures.tokens all.0 all.1) all.2)) c.line_starts.ensures

pub returns-in-None-clause-starts : goal.returns-in-None-clause-starts
returns-in-None-clause-starts c =
    IfOk-weaker c.line_starts.result _ _ (λ starts all. placed_starts_of c.args.room c.args.compounds.now all.0 starts.items (read c.args.room c.args.compounds.now _ _ c.token_limit.ensures c.token_iter-tokens.ensures.tokens all.0 all.1) (sym c.clean_cut.ensures.value ∙ c.in-None.is) all.2) c.line_starts.ensures

pub returns-in-None-clause-fewest : goal.returns-in-None-clause-fewest
returns-in-None-clause-fewest c space =
    IfOk-weaker c.line_starts.result _ _ (λ starts all. placed_fewest c.args.room c.args.compounds.now all.0 starts.items (read c.args.room c.args.compounds.now _ _ c.token_limit.ensures c.token_iter-tokens.ensures.tokens all.0 all.1) (sym c.clean_cut.ensures.value ∙ c.in-None.is) all.2 space) c.line_starts.ensures
