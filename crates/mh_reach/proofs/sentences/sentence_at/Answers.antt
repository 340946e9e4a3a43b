use Rattle.std.proofs.Common.{◌≡◌, ◌∙◌, ◌++◌, ap, arith, List, ℕ}
use Rattle.mh_facts.specs.code.WordCosts.{listed}
use Rattle.mh_reach.proofs.SentenceOf.{first_is_start, letters_are, some_letter}
use Rattle.mh_reach.proofs.sentences.sentence_at.Goals as goal

pub spell-requires : goal.spell-requires
spell-requires c = c.requires.1.known

pub remove-start-requires : goal.remove-start-requires
remove-start-requires c =
    let some = some_letter c.args.book.now c.args.number c.in_ok-tokens.tokens.items c.in_ok-tokens.ensures c.requires.0 c.requires.1 in
    let len = c.in_ok-tokens.tokens.ok in
    omega (arith, some, len.0)

pub returns : goal.returns
returns c l h =
    let letters = letters_are c.args.book.now c.args.number c.in_ok-tokens.tokens.items c.in_ok-tokens.ensures l h in
    let rest : c.remove-start.new.self.items ≡ l.word = rw letters at c.remove-start.ensures.items in (
      first_is_start c.args.book.now c.args.number c.in_ok-tokens.tokens.items c.in_ok-tokens.ensures l h c.remove-start.result c.remove-start.ensures.value,
      c.from_vec.ensures ∙ c.in_ok-push_last.ensures ∙ ap (λ (w : List ℕ). w ++ listed c.args.last) rest,
    )
