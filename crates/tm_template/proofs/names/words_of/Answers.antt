use Rattle.std.proofs.Common.{◌≡◌, ℕ, ◌+◌, ◌≤◌, ◌<◌, true, false, List, [], ◌∷◌, ◌++◌, length, drop, get_or, sym, ap, ◌∙◌, arith, append_assoc}
use Rattle.std.specs.Prelude.{filter}
use Rattle.std.specs.List.{slice_range}
use Rattle.std.proofs.lemmas.Bool.{eq-eqb, ne_eqb}
use Rattle.tm_template.specs.Names.{words_of, is_blank, is_filled}
use Rattle.tm_template.proofs.Words.{IsRun, run_goes_on, no_run, word_ends, last_word, tail_run}
use Rattle.tm_template.proofs.Loops.{char_read, tail_slice}
use Rattle.tm_template.proofs.names.words_of.Goals as goal
use Rattle.tm_template.proofs.names.words_of.Goals.{then-text-at-eq32+in_ok-put_word, else-text-at-eq32}

-- what the loop keeps
record Kept (text : List ℕ) (start at : ℕ) (words : List (List ℕ)) : Type 0 where
  order : start ≤ at
  run : IsRun (slice_range text start at)
  whole : words ++ words_of (drop start text) ≡ words_of text

kept_word : (text : List ℕ) (start at c : ℕ) (words more : List (List ℕ)) → at < length text → c ≡ get_or text at c → c ≡ 32 → Kept text start at words →
    more ≡ words ++ filter is_filled (slice_range text start at ∷ []) → Kept text (at + 1) (at + 1) more
kept_word text start at c words more lt read is k added =
    let blank : is_blank (get_or text at 0) ≡ true = eq-eqb (get_or text at 0) 32 (char_read text at c lt read ∙ is) in
    record {
      order = omega arith;
      run = no_run text (at + 1);
      whole = ap (λ ws. ws ++ words_of (drop (at + 1) text)) added
          ∙ append_assoc words (filter is_filled (slice_range text start at ∷ [])) (words_of (drop (at + 1) text))
          ∙ ap (λ ws. words ++ ws) (sym (word_ends text start at k.order lt blank k.run)) ∙ k.whole;
    }

kept_run : (text : List ℕ) (start at c : ℕ) (words : List (List ℕ)) → at < length text → c ≡ get_or text at c → (c ≡ 32 → ⊥) → Kept text start at words → Kept text start (at + 1) words
kept_run text start at c words lt read other k =
    let no : is_blank (get_or text at 0) ≡ false = ne_eqb (get_or text at 0) 32 (λ e. other (sym (char_read text at c lt read) ∙ e)) in
    let order = k.order in
    record { order = omega (arith, order); run = run_goes_on text start at k.order lt no k.run; whole = k.whole }

pub text-preserved : goal.text-preserved
text-preserved c =
    let k : Kept c.args.text.now c.text.start c.text.at c.text.words.items = record { order = c.text.invariant.order; run = c.text.invariant.run; whole = c.text.invariant.whole } in
    elim c.if-text-at-eq32.branch [
      | then-text-at-eq32+in_ok-put_word w ↦
          let more = kept_word c.args.text.now c.text.start c.text.at c.index-text-at.result c.text.words.items w.put_word.new.words.items c.text-test.true c.index-text-at.is w.if-text-at-eq32.true k w.in_ok-put_word.ensures in
          let at : Kept c.args.text.now c.if-text-at-eq32.start (c.text.at + 1) c.if-text-at-eq32.words.items = rw (w.start-is, w.words-is) more in
          record { order = at.order; run = at.run; whole = at.whole }
      | else-text-at-eq32 w ↦
          let more = kept_run c.args.text.now c.text.start c.text.at c.index-text-at.result c.text.words.items c.text-test.true c.index-text-at.is w.if-text-at-eq32.false k in
          let at : Kept c.args.text.now c.if-text-at-eq32.start (c.text.at + 1) c.if-text-at-eq32.words.items = rw (w.start-is, w.words-is) more in
          record { order = at.order; run = at.run; whole = at.whole }
    ]

pub returns : goal.returns
returns c =
    let run = c.text.invariant.run in
    c.in_ok-put_word-2.ensures ∙ ap (λ u. c.text.words.items ++ filter is_filled (u ∷ [])) (tail_slice c.args.text.now c.text.start) ∙ ap (λ ws. c.text.words.items ++ ws) (sym (last_word (drop c.text.start c.args.text.now) (tail_run c.args.text.now c.text.start c.text.at c.text-test.false run))) ∙ c.text.invariant.whole
