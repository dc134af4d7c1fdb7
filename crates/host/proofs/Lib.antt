-- Laws of the kinds, which no proof here has to cite.
mod Running
