-- Proves that a messages file brought up to date has the same sentences and messages, and that a second update changes
-- no byte.
use Rattle.std.proofs.Common.{◌≡◌, ℕ, ◌+◌, Bool, true, false, List, [], ◌∷◌, ◌++◌, map, refl, sym, ◌∙◌, ap, subst, Option, None, Some}
use Rattle.std.specs.List.{AllByRecursion, Contains}
use Rattle.mh_grammar.proofs.Lists.{contains_here, contains_there, zip_unique}
use Rattle.mh_grammar.specs.declared.types.Grammar.{Grammar}
use Rattle.mh_items_kernels.specs.KernelTypes.{Automaton}
use Rattle.mh_tables_core.specs.Table.{TableData}
use Rattle.mh_tables_core.specs.Facts.{Facts}
use Rattle.mh_msgfile.specs.Sentences.{Vocabulary, vocabulary_of, sentence_in}
use Rattle.mh_msgfile.specs.Lines.{HasNoLineFeed, AreLines}
use Rattle.mh_msgfile.specs.Messages.{blocks, entries_in, MsgSpells}
use Rattle.mh_msgfile.specs.FileTexts.{entry_content, HaveSameContent}
use Rattle.mh_msgfile.specs.declared.messages.MsgSentence.{MsgSentence}
use Rattle.mh_msgfile.specs.declared.messages.MsgFile.{MsgFile}
use Rattle.mh_msgfile.proofs.LineEnds.{with_ends, IsReadUnchanged, lines_end, lines_of_with_ends, no_cr-unchanged}
use Rattle.mh_check.specs.Checks.{sentences_of}
use Rattle.mh_report.specs.Comments.{IsCommentBlock}
use Rattle.mh_report.proofs.OneCommentText.{block_once}
use Rattle.mh_update.specs.declared.comment.Comment.{Comment}
use Rattle.mh_grammar.specs.Text.{Text}
use Rattle.mh_update.specs.Updates.{IsComment, AreComments, updated, IsUpdated, is_generated}
use Rattle.mh_update.specs.NoLineEnds.{HasNamesWithoutLineEnds, HasNoCrAtEnds}
use Rattle.mh_update.proofs.LineWalk.{LinePlace, Outside, MessagesLineKind, kind_of, place_of_next_line, SentenceContent, sentence_content, with_sentence, sentences, generated_is_remark, Walk, Ended, Dropped, Uncommented, Commented, updated_lines, text_of, comments_of, walk_again, updated_text, again_text, updated_lines_read_unchanged, updated_keeps_lines, text_is}
use Rattle.mh_update.proofs.SentencesByLine.{sentences_are}
use Rattle.mh_update.proofs.SameContent.{alike}
use Rattle.mh_update.proofs.GeneratedText.{IsGeneratedText, IsGeneratedText-block}

-- ---- Lines.

all_whole : (lines : List Text) → AllByRecursion HasNoLineFeed lines → ((line front : Text) → Contains lines line → line ≡ front ++ 13 ∷ [] → ⊥) → AllByRecursion IsReadUnchanged lines
all_whole [] ends free = tt
all_whole (line ∷ lines) ends free = (
  (ends.0, no_cr-unchanged line _ refl (λ front is. free line front (contains_here line lines) is)),
  all_whole lines ends.1 (λ other front c is. free other front (contains_there line lines other c) is),
)

module _ (expected : Bool) (g : Grammar) (a : Automaton) (t : TableData) where
  abbrev IsCommentOf : SentenceContent → Text → Type 0
  IsCommentOf c text = IsCommentBlock expected g a t c.0 c.1 text

  abbrev v : Vocabulary
  v = vocabulary_of g

  -- ---- The walk over the lines of a file whose sentences have comments.

  record WalkFound (place : LinePlace) (before : ℕ) (lines : List Text) (cs : List Comment) : Type 0 where
    comment_blocks : List (List Text)
    walk : Walk v IsCommentOf place lines comment_blocks
    comments_are : comments_of v IsCommentOf before place lines comment_blocks walk ≡ cs

  module _ (comment_block : (start : ℕ) (w : List ℕ) (text : Text) → IsCommentBlock expected g a t start w text → IsGeneratedText text) where
    abbrev Finds : LinePlace → ℕ → List Text → Type 0
    Finds place before lines = (cs : List Comment) → AreComments expected g a t (sentences v place before lines) cs → WalkFound place before lines cs

    telling : (place : LinePlace) (before : ℕ) (x : Text) (xs : List Text) (content : SentenceContent) (cs : List Comment) → is_generated x ≡ false → sentence_content (kind_of x) place (sentence_in v x) ≡ Some content
        → Finds (place_of_next_line (kind_of x) place) (before + 1) xs → AreComments expected g a t (with_sentence (before + 1) (Some content) (sentences v (place_of_next_line (kind_of x) place) (before + 1) xs)) cs → WalkFound place before (x ∷ xs) cs
    telling place before x xs content [] own some finds are = absurd are
    telling place before x xs content (d ∷ cs) own some finds are =
        let here = comment_block content.0 content.1 d.text are.0.1 in
        let later = finds cs are.1 in
        let line : d.line ≡ before + 1 = are.0.0 in
        let text : d.text ≡ with_ends here.lines = here.is in record {
          comment_blocks = here.lines ∷ later.comment_blocks;
          walk = Commented place x xs content here.lines later.comment_blocks own some (subst (λ (l : Text). IsCommentBlock expected g a t content.0 content.1 l) text are.0.1) here.are_generated later.walk;
          comments_are = (let same = later.comments_are in λ i. record { line = sym line i; text = sym text i } ∷ same i);
        }

    walk_on : (place : LinePlace) (before : ℕ) (x : Text) (xs : List Text) (cs : List Comment) (made : Bool) → is_generated x ≡ made → (o : Option SentenceContent) → sentence_content (kind_of x) place (sentence_in v x) ≡ o
        → ((p : LinePlace) → Finds p (before + 1) xs) → AreComments expected g a t (sentences v place before (x ∷ xs)) cs → WalkFound place before (x ∷ xs) cs
    walk_on place before x xs cs true made o is finds are =
        let later = finds place cs (subst (λ (k : MessagesLineKind). AreComments expected g a t (with_sentence (before + 1) (sentence_content k place (sentence_in v x)) (sentences v (place_of_next_line k place) (before + 1) xs)) cs) (generated_is_remark x made) are) in record {
          comment_blocks = later.comment_blocks;
          walk = Dropped place x xs later.comment_blocks made later.walk;
          comments_are = later.comments_are;
        }
    walk_on place before x xs cs false own None is finds are =
        let later = finds (place_of_next_line (kind_of x) place) cs (subst (λ (o : Option SentenceContent). AreComments expected g a t (with_sentence (before + 1) o (sentences v (place_of_next_line (kind_of x) place) (before + 1) xs)) cs) is are) in record {
          comment_blocks = later.comment_blocks;
          walk = Uncommented place x xs later.comment_blocks own is later.walk;
          comments_are = later.comments_are;
        }
    walk_on place before x xs cs false own (Some content) is finds are =
        telling place before x xs content cs own is (finds (place_of_next_line (kind_of x) place)) (subst (λ (o : Option SentenceContent). AreComments expected g a t (with_sentence (before + 1) o (sentences v (place_of_next_line (kind_of x) place) (before + 1) xs)) cs) is are)

    walk_from : (lines : List Text) (before : ℕ) (place : LinePlace) → Finds place before lines
    walk_from [] before place [] are = record { comment_blocks = []; walk = Ended place; comments_are = refl }
    walk_from [] before place (c ∷ cs) are = absurd are
    walk_from (x ∷ xs) before place cs are = walk_on place before x xs cs (is_generated x) refl (sentence_content (kind_of x) place (sentence_in v x)) refl (walk_from xs (before + 1)) are

  -- The comments that a walk collects are those of the sentences of the file.
  comments_are : (before : ℕ) (place : LinePlace) (lines : List Text) (comment_blocks : List (List Text)) (walk : Walk v IsCommentOf place lines comment_blocks) → AreComments expected g a t (sentences v place before lines) (comments_of v IsCommentOf before place lines comment_blocks walk)
  comments_are before place lines comment_blocks (Ended p) = tt
  comments_are before place lines comment_blocks (Dropped p x xs ls made walk) =
      subst (λ (k : MessagesLineKind). AreComments expected g a t (with_sentence (before + 1) (sentence_content k p (sentence_in v x)) (sentences v (place_of_next_line k p) (before + 1) xs)) (comments_of v IsCommentOf (before + 1) p xs ls walk)) (sym (generated_is_remark x made)) (comments_are (before + 1) p xs ls walk)
  comments_are before place lines comment_blocks (Uncommented p x xs ls own none walk) =
      subst (λ (o : Option SentenceContent). AreComments expected g a t (with_sentence (before + 1) o (sentences v (place_of_next_line (kind_of x) p) (before + 1) xs)) (comments_of v IsCommentOf (before + 1) (place_of_next_line (kind_of x) p) xs ls walk)) (sym none)
      (comments_are (before + 1) (place_of_next_line (kind_of x) p) xs ls walk)
  comments_are before place lines comment_blocks (Commented p x xs c l ls own some is all walk) =
      subst (λ (o : Option SentenceContent). AreComments expected g a t (with_sentence (before + 1) o (sentences v (place_of_next_line (kind_of x) p) (before + 1) xs)) (record { line = before + 1; text = with_ends l } ∷ comments_of v IsCommentOf (before + 1) (place_of_next_line (kind_of x) p) xs ls walk)) (sym some)
      ((refl, is), comments_are (before + 1) (place_of_next_line (kind_of x) p) xs ls walk)

  -- The text of a walk is the file brought up to date.
  walk_text : (lines : List Text) (comment_blocks : List (List Text)) (walk : Walk v IsCommentOf Outside lines comment_blocks) → text_of v IsCommentOf Outside lines comment_blocks walk ≡ updated lines (comments_of v IsCommentOf 0 Outside lines comment_blocks walk)
  walk_text lines comment_blocks walk = text_is v IsCommentOf lines 0 0 [] Outside lines comment_blocks walk (record { place = refl; rest = refl })

  pub updated_again : Facts t → HasNamesWithoutLineEnds g → (bytes text : Text) (file : MsgFile) → MsgSpells g bytes file → HasNoCrAtEnds file → IsUpdated expected g a t file text
      → (walk_again : MsgFile) × MsgSpells g text walk_again × HaveSameContent file walk_again × IsUpdated expected g a t walk_again text
  updated_again facts names bytes text file spells free is =
      let lines = file.lines in
      let found = walk_from (IsGeneratedText-block g names a t facts expected) lines 0 Outside is.0 (subst (λ (xs : List MsgSentence). AreComments expected g a t xs is.0) (sentences_are g bytes file spells) is.1) in
      let walk = found.walk in
      let new = updated_lines v IsCommentOf Outside lines found.comment_blocks walk in
      let twice = walk_again v IsCommentOf Outside lines found.comment_blocks walk in
      let whole = updated_lines_read_unchanged v IsCommentOf Outside lines found.comment_blocks walk (all_whole lines (lines_end bytes lines spells.lines) free) in
      let walked : text ≡ text_of v IsCommentOf Outside lines found.comment_blocks walk = is.2 ∙ sym (walk_text lines found.comment_blocks walk ∙ ap (updated lines) found.comments_are) in
      let same = alike v lines new (sym (updated_keeps_lines v IsCommentOf Outside lines found.comment_blocks walk)) in
      let ended : text ≡ with_ends new = walked ∙ sym (updated_text v IsCommentOf Outside lines found.comment_blocks walk) in
      let file_again : MsgFile = record { lines = new; entries = entries_in v new (blocks new) } in
      let spelled : MsgSpells g text file_again = record {
        lines = subst (λ (b : Text). AreLines b new) (sym ended) (lines_of_with_ends new whole);
        no_faults = same.no_faults spells.no_faults;
        entries = refl;
      } in
      let cs = comments_of v IsCommentOf 0 Outside new found.comment_blocks twice in (
        file_again,
        spelled,
        ap (map entry_content) spells.entries ∙ same.content,
        (
          cs,
          subst (λ (xs : List MsgSentence). AreComments expected g a t xs cs) (sym (sentences_are g text file_again spelled)) (comments_are 0 Outside new found.comment_blocks twice),
          walked ∙ sym (again_text v IsCommentOf Outside lines found.comment_blocks walk) ∙ walk_text new found.comment_blocks twice,
        ),
      )

  -- ---- The updated text is unique.

  one_comment : (x : MsgSentence) (c d : Comment) → IsComment expected g a t x c → IsComment expected g a t x d → c ≡ d
  one_comment x c d p q =
      let line : c.line ≡ d.line = p.0 ∙ sym q.0 in
      let text : c.text ≡ d.text = block_once g a t expected x.start x.tokens c.text d.text p.1 q.1 in λ i. record { line = line i; text = text i }

  pub updated_once : (file : MsgFile) (x y : Text) → IsUpdated expected g a t file x → IsUpdated expected g a t file y → x ≡ y
  updated_once file x y p q = p.2 ∙ ap (updated file.lines) (zip_unique (IsComment expected g a t) one_comment (sentences_of file) p.0 q.0 p.1 q.1) ∙ sym q.2
