use Rattle.cap_config.proofs.FaultLines.{faults_in_lines, faults_of_text, lines_few}
use Rattle.cap_config.proofs.laws.faults_are_of_the_text.Goals as goal

pub returns-clause-lines : goal.returns-clause-lines
returns-clause-lines c = faults_in_lines

pub returns-clause-few : goal.returns-clause-few
returns-clause-few c = lines_few

pub returns-clause-kinds : goal.returns-clause-kinds
returns-clause-kinds c = faults_of_text
