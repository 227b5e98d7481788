use Rattle.text_image.proofs.Told.{told_image, told_fault}
use Rattle.text_image.proofs.laws.image_where_no_line_is_refused.Goals as goal

pub returns-clause-image : goal.returns-clause-image
returns-clause-image c = told_image

pub returns-clause-fault : goal.returns-clause-fault
returns-clause-fault c = told_fault
