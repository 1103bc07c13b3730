use Rattle.std.proofs.Common.{None, ap, sym, ◌∙◌, cond}
use Rattle.std.specs.Prelude.{option_map}
use Rattle.ucd_sets.specs.declared.set.Set.TheVariants.{Script}
use Rattle.ucd_sets.specs.Loose.{loosely, value_named}
use Rattle.ucd_sets.specs.Names.{script_names}
use Rattle.tm_onig_class.proofs.KitNames.{by_script}
use Rattle.tm_onig_class.proofs.LongNames.{long_is}
use Rattle.tm_onig_class.proofs.names.script.Goals as goal

pub returns-then-short_script : goal.returns-then-short_script
returns-then-short_script c =
    sym (ap (option_map Script) (long_is c.args.name.now ∙ ap (λ b. cond b None (value_named (loosely script_names) c.args.name.now)) (sym c.short_script.ensures ∙ c.if-short_script.true)))

pub returns-in-Ok : goal.returns-in-Ok
returns-in-Ok c =
    sym c.in-Ok.ensures.found ∙ by_script c.args.name.now
    ∙ sym (ap (option_map Script) (long_is c.args.name.now ∙ ap (λ b. cond b None (value_named (loosely script_names) c.args.name.now)) (sym c.short_script.ensures ∙ c.if-short_script.false)))

pub returns-in-Err : goal.returns-in-Err
returns-in-Err c =
    sym c.in-Err.ensures.found ∙ by_script c.args.name.now
    ∙ sym (ap (option_map Script) (long_is c.args.name.now ∙ ap (λ b. cond b None (value_named (loosely script_names) c.args.name.now)) (sym c.short_script.ensures ∙ c.if-short_script.false)))
