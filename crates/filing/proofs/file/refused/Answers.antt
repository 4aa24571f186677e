-- The first call measures and leaves the output; the second lays what has been measured.
use Rattle.filing.proofs.file.refused.Goals as goal
use Rattle.writer.specs.WroteLaws.{measured-full, laid-never-full, laid-wrote}

pub returns-in_default : goal.returns-in_default
returns-in_default c = measured-full _ _ _ _ c.refused_line.ensures c.in_default.is

pub returns-in_default-refused_line : goal.returns-in_default-refused_line
returns-in_default-refused_line c = laid-never-full _ _ _ _ c.refused_line.ensures _ c.in-Some.is _ _ c.refused_line-2.ensures c.in_default-refused_line.is

pub returns : goal.returns
returns c = laid-wrote _ _ _ _ c.refused_line.ensures _ c.in-Some.is _ _ c.refused_line-2.ensures _ c.in-Some-refused_line.is
