mod RuleLemmas
mod CallLemmas
mod LawLemmas
