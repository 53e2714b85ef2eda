-- A file that the code wants, as the definition's.
use Rattle.dom_finding.specs.Finding.{Ask}
use Rattle.dom_finding.specs.declared.wanted.WantedFile.{WantedFile}

abbrev pub ask_of : WantedFile → Ask
ask_of file = record { name = file.name.now; most = file.most; over = file.over }
