mod EmptyTexts
mod ServedSoFar
mod ShorterLines
mod TooLong
