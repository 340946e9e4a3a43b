use Rattle.std.proofs.Common.{◌≡◌, ◌≤◌, List, arith, false, inl, inr, length, refl, subst, sym, true, ◌∙◌}
use Rattle.std.specs.List.{Any}
use Rattle.std.specs.HashMap.{get}
use Rattle.std.specs.HashSet.{contains}
use Rattle.mh_join_names.specs.Names.{same}
use Rattle.mh_reader_places.specs.declared.mentions.Mention.{Mention}
use Rattle.mh_lint.specs.code.Uses.{NamesTokenByPrec}
use Rattle.mh_lint.proofs.Gains.{Gains, first_all, first_empty, first_next, first_none}
use Rattle.mh_lint.proofs.PrecTokens.{NamesIn, mentions_of, named_in_files}
use Rattle.mh_lint.proofs.uses.prec_tokens.Goals as goal

pub loop-mentions-init : goal.loop-mentions-init
loop-mentions-init c =
    first_empty (NamesIn c.args.tables.now.tokens.keys (λ a. get same c.args.tables.now.aliases a)) c.as_slice-mentions-items.result.now (λ x. ⊥) (λ x. contains same c.new-names.result x ≡ true) (λ x none. none)
    (λ x e. (let lacks : contains same c.new-names.result x ≡ false = rw c.new-names.ensures.empty refl in let bad : false ≡ true = sym lacks ∙ e in cc))

pub loop-mention-init : goal.loop-mention-init
loop-mention-init c = first_none (NamesTokenByPrec c.args.tables.now.tokens.keys (λ a. get same c.args.tables.now.aliases a)) c.as_slice-mention-items.result.now (λ x. contains same c.loop-mentions.names x ≡ true)

pub loop-mention-preserved : goal.loop-mention-preserved
loop-mention-preserved c =
    first_next (NamesTokenByPrec c.args.tables.now.tokens.keys (λ a. get same c.args.tables.now.aliases a)) c.as_slice-mention-items.result.now c.loop-mention.mention-index c.mention-item.result (λ x. contains same c.loop-mentions.names x ≡ true) (λ x. contains same c.loop-mention.names x ≡ true) (λ x. contains same c.put_prec_token.new.names x ≡ true) c.loop-mention-test.true c.mention-item.is c.loop-mention.invariant c.in_ok-put_prec_token.ensures

pub loop-mentions-preserved : goal.loop-mentions-preserved
loop-mentions-preserved c =
    let P = NamesTokenByPrec c.args.tables.now.tokens.keys (λ a. get same c.args.tables.now.aliases a) in
    let mentions = c.as_slice-mention-items.result.now in
    let past : length mentions ≤ c.loop-mention.mention-index = (let a = c.loop-mention-test.false in omega (arith, a)) in
    let gained = first_all P mentions c.loop-mention.mention-index (λ x. contains same c.loop-mentions.names x ≡ true) (λ x. contains same c.loop-mention.names x ≡ true) past c.loop-mention.invariant in
    first_next (NamesIn c.args.tables.now.tokens.keys (λ a. get same c.args.tables.now.aliases a)) c.as_slice-mentions-items.result.now c.loop-mentions.mentions-index c.mentions-item.result (λ x. ⊥) (λ x. contains same c.loop-mentions.names x ≡ true) (λ x. contains same c.loop-mention.names x ≡ true) c.loop-mentions-test.true c.mentions-item.is c.loop-mentions.invariant
    (subst (λ (ms : List Mention). Gains (λ x. Any (λ m. P m x) ms) (λ x. contains same c.loop-mentions.names x ≡ true) (λ x. contains same c.loop-mention.names x ≡ true)) c.as_slice-mention-items.ensures gained)

pub returns : goal.returns
returns c found split x =
    let P = NamesIn c.args.tables.now.tokens.keys (λ a. get same c.args.tables.now.aliases a) in
    let lists = c.as_slice-mentions-items.result.now in
    let past : length lists ≤ c.loop-mentions.mentions-index = (let a = c.loop-mentions-test.false in omega (arith, a)) in
    let gained = first_all P lists c.loop-mentions.mentions-index (λ y. ⊥) (λ y. contains same c.loop-mentions.names y ≡ true) past c.loop-mentions.invariant x in
    let same_lists : lists ≡ mentions_of found = c.as_slice-mentions-items.ensures.value ∙ split.mentions in
    let named = named_in_files c.args.tables.now.tokens.keys (λ a. get same c.args.tables.now.aliases a) found x in (
      λ e. elim (gained.0 e) [ inl none ↦ absurd none | inr some ↦ named.0 (subst (λ ls. Any (λ ms. P ms x) ls) same_lists some) ],
      λ h. gained.1 (inr (subst (λ ls. Any (λ ms. P ms x) ls) (sym same_lists) (named.1 h))),
    )
