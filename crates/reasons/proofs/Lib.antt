mod Listed
mod Rising
