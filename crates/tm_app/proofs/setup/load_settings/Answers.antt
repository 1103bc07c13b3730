use Rattle.std.proofs.Common.{◌≡◌, Ok}
use Rattle.tm_forms.specs.Settings.{settings_in}
use Rattle.tm_app.specs.Told.{where_told}
use Rattle.tm_app.proofs.Layers.{loaded-some, lists-stop}
use Rattle.tm_app.proofs.ReadStops.{found}
use Rattle.tm_app.proofs.setup.load_settings.Goals as goal

pub returns-in-Ok-load_list-clause-some : goal.returns-in-Ok-load_list-clause-some
returns-in-Ok-load_list-clause-some g c =
    let read = found (g.F.Files.bytes c.args.files.now c.args.name.now) (λ bytes. settings_in bytes ≡ Ok c.in-Ok.says) c.in-Ok.ensures.ok in
    loaded-some (where_told (g.F.Files.bytes c.load.new.files)) read.0 c.in-Ok.says c.settings.result.now c.in-Ok-load_list.settings.items read.1 c.settings.ensures c.in-Ok-load_list.ensures.ok

pub returns-clause-err : goal.returns-clause-err
returns-clause-err g c =
    lists-stop (g.F.Files.bytes c.args.files.now) (g.F.Files.bytes c.load.new.files) c.load.ensures.kept c.args.name.now c.in-Ok.says c.settings.result.now
    (g.F.Files.failed c.args.files.now) (g.F.Files.failed c.load.new.files) _ c.in-Err-load_list.status c.in-Ok.ensures.ok c.settings.ensures c.load.ensures.grows c.in-Err-load_list.ensures.err
