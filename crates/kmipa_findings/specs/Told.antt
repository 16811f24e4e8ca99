-- what a finding of the program means
use Rattle.kmipa_record.specs.Witnesses.{turn_of}
use Rattle.kmipa_findings.specs.Findings.{FindingOf}
use Rattle.kmipa_findings.specs.declared.finding.Finding.{Finding}

abbrev pub finding_of : Finding → FindingOf
finding_of f = record { place = f.place; tried = turn_of f.tried; refused = f.refused; stamp = f.stamp }
