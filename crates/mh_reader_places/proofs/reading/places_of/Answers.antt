use Rattle.std.proofs.Common.{◌≡◌, ℕ, suc, ◌+◌, ◌<◌, List, ◌∷◌, ◌++◌, length, get_or, drop, Option, Some, None, sym, ap, subst, ◌∙◌, append_assoc, add-one, drop-cons, arith}
use Rattle.mh_lex.specs.declared.kinds.Kind.TheVariants.{Word}
use Rattle.mh_lex.specs.declared.kinds.Lexeme.{Lexeme}
use Rattle.mh_reader_parser.specs.declared.token_kinds.TokenKind.{TokenKind}
use Rattle.mh_reader_places.specs.Places.{bad_cost_of, bad_costs}
use Rattle.mh_reader_places.specs.code.ScanSteps.{AreCountsWithin}
use Rattle.mh_reader_places.specs.code.Walks.{scan_after, mentions_after, kind_in, text_in, mentions_from}
use Rattle.mh_reader_places.specs.declared.mentions.Mention.{Mention}
use Rattle.mh_reader_places.specs.declared.scan.Scan.{Scan}
use Rattle.mh_reader_places.proofs.ScanSteps.{AreCountsWithin-taken, AreCountsWithin-more}
use Rattle.mh_reader_places.proofs.reading.places_of.Goals as goal

abbrev none : Lexeme
none = record { kind = Word; start = 0; end = 0 }

abbrev lexeme_at : List Lexeme → ℕ → Lexeme
lexeme_at ls i = get_or ls i none

dropped : (ls : List Lexeme) (i : ℕ) → i < length ls → drop i ls ≡ lexeme_at ls i ∷ drop (i + 1) ls
dropped ls i h = drop-cons ls i none h ∙ ap (λ n. lexeme_at ls i ∷ drop n ls) (sym (add-one i))

mentions_step : (bytes : List ℕ) (ls : List Lexeme) (i : ℕ) (s t : Scan) (found more all : List Mention) → i < length ls → t ≡ scan_after s (kind_in bytes (lexeme_at ls i)) →
    more ≡ mentions_after (lexeme_at ls i).start s (kind_in bytes (lexeme_at ls i)) (text_in bytes (lexeme_at ls i)) found → mentions_from bytes s found (drop i ls) ≡ all →
    mentions_from bytes t more (drop (i + 1) ls) ≡ all
mentions_step bytes ls i s t found more all h e f g =
    ap (λ u. mentions_from bytes u more (drop (i + 1) ls)) e
    ∙ ap (λ m. mentions_from bytes (scan_after s (kind_in bytes (lexeme_at ls i))) m (drop (i + 1) ls)) f
    ∙ sym (ap (λ k. mentions_from bytes s found k) (dropped ls i h))
    ∙ g

costs_step : (bytes : List ℕ) (ls : List Lexeme) (i : ℕ) (found more all : List ℕ) → i < length ls → more ≡ found ++ bad_cost_of bytes (lexeme_at ls i) → found ++ bad_costs bytes (drop i ls) ≡ all →
    more ++ bad_costs bytes (drop (i + 1) ls) ≡ all
costs_step bytes ls i found more all h f g =
    ap (λ m. m ++ bad_costs bytes (drop (i + 1) ls)) f
    ∙ append_assoc found (bad_cost_of bytes (lexeme_at ls i)) (bad_costs bytes (drop (i + 1) ls))
    ∙ sym (ap (λ k. found ++ bad_costs bytes k) (dropped ls i h))
    ∙ g

after_within : (n : ℕ) (s : Scan) (o : Option TokenKind) → AreCountsWithin n s → AreCountsWithin (suc n) (scan_after s o)
after_within n s None h = AreCountsWithin-more n s h
after_within n s (Some g) h = AreCountsWithin-taken n s g h

room_step : (i : ℕ) (s t : Scan) (o : Option TokenKind) → t ≡ scan_after s o → AreCountsWithin i s → AreCountsWithin (i + 1) t
room_step i s t o e h = subst (λ n. AreCountsWithin n t) (sym (add-one i)) (subst (λ (u : Scan). AreCountsWithin (suc i) u) (sym e) (after_within i s o h))

pub loop-lexeme-preserved : goal.loop-lexeme-preserved
loop-lexeme-preserved c =
    let bytes = c.args.bytes.now in
    let ls = c.args.lexemes.now in
    let i = c.loop-lexeme.lexeme-index in
    let old = c.loop-lexeme.places in
    let new = c.add_lexeme.new.self in
    let h : i < length ls = omega arith in
    record {
      mentions = mentions_step bytes ls i old.scan new.scan old.mentions.items new.mentions.items _ h c.in_ok-add_lexeme.ensures.scan c.in_ok-add_lexeme.ensures.mentions c.loop-lexeme.invariant.mentions;
      costs = costs_step bytes ls i old.bad_costs.items new.bad_costs.items _ h c.in_ok-add_lexeme.ensures.costs c.loop-lexeme.invariant.costs;
      room = room_step i old.scan new.scan (kind_in bytes (lexeme_at ls i)) c.in_ok-add_lexeme.ensures.scan c.loop-lexeme.invariant.room;
    }
