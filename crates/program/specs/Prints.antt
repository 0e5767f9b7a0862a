-- What is printed of a report: values with commas between them.
use Rattle.std.specs.Prelude.{◌≡◌, ℕ, List, ◌∷◌, map, codes, decimal}
use Rattle.std.specs.Fmt.{signed_decimal}
use Rattle.points.specs.declared.position.Position.{Position}
use Rattle.reader.specs.Fields.{commas}
use Rattle.rows.specs.declared.kind.FileKind.{FileKind}
use Rattle.rows.specs.Columns.{columns_of}
use Rattle.rows.specs.Names.{text_of}
use Rattle.grouping.specs.Groups.{group_at, place_of}
use Rattle.program.specs.declared.print.GroupLine.{GroupLine}
use Rattle.program.specs.declared.report.Report.{Report}
use Rattle.program.specs.Answers.{axes_of, centers_of}

-- the names of the columns: the axes are those of the kind
abbrev pub heading_text : FileKind → List ℕ
heading_text kind = commas (codes "group" ∷ codes "weight" ∷ map (λ c. text_of c.name) (columns_of (centers_of kind)))

-- number, weight and place of a group
abbrev pub line_text : FileKind → ℕ → ℕ → Position → List ℕ
line_text kind number weight center = commas (decimal number ∷ decimal weight ∷ map signed_decimal (place_of (axes_of kind) center))

-- the line is that of group k of the report
pub record LineOf (report : Report) (k : ℕ) (line : GroupLine) : Type 0 where
  pub kind_is : line.kind ≡ report.kind
  pub number_is : line.number ≡ k
  pub weight_is : line.weight ≡ (group_at report.groups k).weight
  pub center_is : line.center ≡ (group_at report.groups k).center
