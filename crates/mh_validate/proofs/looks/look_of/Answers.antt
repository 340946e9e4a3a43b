use Rattle.std.proofs.Common.{◌≡◌, sym, ap, ◌∙◌, true≢false}
use Rattle.mh_msgfile.specs.Sentences.{Vocabulary, number_in, number_of, token_names}
use Rattle.mh_validate.proofs.LookByName.{token_named, none_named}
use Rattle.mh_validate.proofs.looks.look_of.Goals as goal

pub returns-in-Some : goal.returns-in-Some
returns-in-Some c =
    let same : number_in c.args.lexicon.now.tokens.entries c.args.name.now ≡ number_of (token_names c.args.grammar.now) c.args.name.now = ap (λ (v : Vocabulary). v.token_named c.args.name.now) c.requires.lexicon in
    token_named c.args.grammar.now c.args.name.now c.in-Some.token (sym same ∙ sym c.token.ensures ∙ c.in-Some.is)

pub returns-in-None : goal.returns-in-None
returns-in-None c =
    let same : number_in c.args.lexicon.now.tokens.entries c.args.name.now ≡ number_of (token_names c.args.grammar.now) c.args.name.now = ap (λ (v : Vocabulary). v.token_named c.args.name.now) c.requires.lexicon in
    none_named c.args.grammar.now c.requires.distinct_names c.args.name.now (λ e. true≢false (sym (c.is_end_name.ensures.1 e) ∙ c.if-is_end_name.false)) (sym same ∙ sym c.token.ensures ∙ c.in-None.is)
