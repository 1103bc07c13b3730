use Rattle.std.proofs.Common.{◌≡◌, true, ◌&&◌, [], ◌∷◌, ◌++◌, filter_map, take, sym, ap, ap₂, ◌∙◌, lt-ltb}
use Rattle.std.specs.Char.{is_ascii}
use Rattle.std.proofs.lemmas.List.{take_more}
use Rattle.std.proofs.lemmas.List.Folds.{list_all_more}
use Rattle.ucd_sets.proofs.LooseLemmas.{filter_map-append}
use Rattle.tm_onig_class.specs.Named.{plain}
use Rattle.tm_onig_class.proofs.names.plain_name.Goals as goal

pub chars-preserved : goal.chars-preserved
chars-preserved c =
    let name = c.args.name.now in
    let i = c.chars.index in
    let small : is_ascii c.index-name-index.result ≡ true = lt-ltb _ _ c.if-name-index-ge128.false in (
      list_all_more is_ascii name i _ c.chars-test.true ∙ ap₂ ◌&&◌ c.chars.invariant.0 (ap is_ascii (sym c.index-name-index.is) ∙ small),
      c.in_ok-push_plain.ensures ∙ ap₂ ◌++◌ c.chars.invariant.1 (ap (λ x. filter_map plain (x ∷ [])) c.index-name-index-in-chars.is)
          ∙ sym (ap (filter_map plain) (take_more name i _ c.chars-test.true) ∙ filter_map-append plain (take i name) _),
    )
