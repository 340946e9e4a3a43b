use Rattle.std.proofs.Common.{◌≡◌, ◌∙◌, ◌<◌, ◌^◌, List, [], ℕ, length, map, get_or, sym, ap, arith, subst}
use Rattle.std.specs.Prelude.{slice_index}
use Rattle.std.specs.List.{All}
use Rattle.std.proofs.lemmas.List.{get_or_default}
use Rattle.std.proofs.lemmas.List.Elements.{All-get_or}
use Rattle.mh_grammar.specs.declared.types.Symbol.TheVariants.{N}
use Rattle.mh_grammar.specs.Plain.{plain_of}
use Rattle.mh_sample.specs.code.Rows.{length_for, AreLeastLengths, IsRow}
use Rattle.mh_sample.proofs.LeastLengths.{all_short, least_lengths_are, symbol_least}
use Rattle.mh_sample.proofs.RandomIsSentence.{random_is_sentence}
use Rattle.mh_sample.proofs.random.random_sentence.Goals as goal

pub returns-then-index-length-clause-fault : goal.returns-then-index-length-clause-fault
returns-then-index-length-clause-fault c = λ s derived.
    let g = plain_of c.args.grammar.now in
    let starts = c.args.grammar.now.starts in
    let shortest = c.in_ok-shortest.shortest.items in
    let lengths = c.in_ok-lengths.lengths.items in
    let made = c.in_ok-lengths.ensures ∙ ap (λ l. map length_for l) c.as_slice.ensures.value in
    let known = least_lengths_are g shortest lengths (omega (arith, c.in_ok-shortest.ensures.len, c.in_ok-shortest.shortest.ok.0)) c.in_ok-shortest.ensures.each made in
    let first : c.index.result.now ≡ slice_index starts 0 = c.index.ensures ∙ get_or_default starts 0 c.index.result.now 0 c.requires.start in
    let below = All-get_or (λ n. n < g.nonterminals) starts 0 0 c.requires.start c.requires.range.starts in
    let least = symbol_least g c.requires.range shortest lengths known (N (slice_index starts 0)) s below derived in
    let within : c.from.result < length lengths = omega (arith, c.from.ensures, first, below, known.all) in
    let read : c.index-2.result.now ≡ get_or lengths (slice_index starts 0) 0 = c.index-2.ensures ∙ get_or_default lengths c.from.result c.index-2.result.now 0 within ∙ ap (λ n. get_or lengths n 0) (c.from.ensures ∙ first) in
    omega (arith, c.if-index-length.true, read, least)

pub rows_of-requires-clause-short : goal.rows_of-requires-clause-short
rows_of-requires-clause-short c =
    let g = plain_of c.args.grammar.now in
    let shortest = c.in_ok-shortest.shortest.items in
    let lengths = c.in_ok-lengths.lengths.items in
    let made = c.in_ok-lengths.ensures ∙ ap (λ l. map length_for l) c.as_slice.ensures.value in
    let known = least_lengths_are g shortest lengths (omega (arith, c.in_ok-shortest.ensures.len, c.in_ok-shortest.shortest.ok.0)) c.in_ok-shortest.ensures.each made in
    subst (λ (l : List ℕ). All (λ n. n < 2 ^ 16) l) (sym c.as_slice-2.ensures.value) (all_short g c.requires.range shortest lengths known)

pub sentence_by-requires-clause-guide : goal.sentence_by-requires-clause-guide
sentence_by-requires-clause-guide c =
    let g = plain_of c.args.grammar.now in
    let shortest = c.in_ok-shortest.shortest.items in
    let lengths = c.in_ok-lengths.lengths.items in
    let made = c.in_ok-lengths.ensures ∙ ap (λ l. map length_for l) c.as_slice.ensures.value in
    let known = least_lengths_are g shortest lengths (omega (arith, c.in_ok-shortest.ensures.len, c.in_ok-shortest.shortest.ok.0)) c.in_ok-shortest.ensures.each made in
    let here = c.as_slice-2.ensures.value ∙ sym c.as_slice-4.ensures.value in
    record {
      range = c.requires.range;
      few = c.requires.few;
      known = subst (λ l. AreLeastLengths g l c.as_slice-4.result.now) (sym c.as_slice-3.ensures.value) (subst (AreLeastLengths g shortest) (sym c.as_slice-4.ensures.value) known);
      all = c.as_slice-5.ensures.len ∙ c.in_ok-rows.ensures.len;
      rows = λ x. subst (λ r. IsRow g c.as_slice-4.result.now (length c.args.grammar.now.productions) x (get_or r x [])) (sym c.as_slice-5.ensures.value) (subst (λ l. IsRow g l (length c.args.grammar.now.productions) x (get_or c.in_ok-rows.rows.items x [])) here (c.in_ok-rows.ensures.rows x));
    }

pub returns-clause-sentence : goal.returns-clause-sentence
returns-clause-sentence c = (random_is_sentence (plain_of c.args.grammar.now) c.args.seed c.args.length c.in_ok-sentence_by.field-0 c.in_ok-sentence_by.ensures.random).0

pub returns-clause-within : goal.returns-clause-within
returns-clause-within c = (random_is_sentence (plain_of c.args.grammar.now) c.args.seed c.args.length c.in_ok-sentence_by.field-0 c.in_ok-sentence_by.ensures.random).1
