use Rattle.tm_template.specs.References.{name_form}
use Rattle.tm_template.proofs.Forms.{name_is_form}
use Rattle.tm_template.proofs.Pieces.{spelled_behind, read_behind, pieces_again}
use Rattle.tm_template.proofs.laws.template_pieces.Goals as goal

pub returns-clause-spelled : goal.returns-clause-spelled
returns-clause-spelled c t = spelled_behind name_form name_is_form 0 t

pub returns-clause-read : goal.returns-clause-read
returns-clause-read c t = read_behind name_form name_is_form 0 t

pub returns-clause-only : goal.returns-clause-only
returns-clause-only c ps are = pieces_again name_form name_is_form ps are
